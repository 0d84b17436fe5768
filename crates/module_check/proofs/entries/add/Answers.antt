use Rattle.std.proofs.Common.{◌≡◌, ℕ, ◌+◌, ◌<◌, refl, ap, sym, ◌∙◌, subst, arith, List, [], ◌∷◌, ◌++◌, Some, length, get_or, slice_get}
use Rattle.std.proofs.lemmas.Option.{slice_get_read}
use Rattle.beam_code.specs.declared.module.Function.{Function}
use Rattle.beam_code.specs.Function.{Placed, items_in}
use Rattle.path_rules.specs.Sites.{placed_in}
use Rattle.module_check.specs.declared.entry.Entry.{Entry}
use Rattle.module_check.specs.Entries.{AreEntries, IsEntry, before}
use Rattle.module_check.proofs.Entering.{entered_hold, one_entered}
use Rattle.module_check.proofs.Placing.{before_more, found, items_append}
use Rattle.module_check.proofs.Stopping.{few_places, items_so_far, stops_in}
use Rattle.module_check.proofs.entries.add.Goals as goal

-- the function at the place
at : (fs there : List Function) (place : ℕ) (f : Function) → there ≡ fs → place < length fs → f ≡ get_or there place f → slice_get fs place ≡ Some f
at fs there place f same low is = slice_get_read fs (length fs) place f refl low (is ∙ ap (λ (l : List Function). get_or l place f) same)

pub standings-requires-clause-function : goal.standings-requires-clause-function
standings-requires-clause-function c =
    let f = c.index-as_slice-place.result in
    found c.args.owner.now.functions c.args.place f (at c.args.owner.now.functions c.as_slice.result.now c.args.place f c.as_slice.ensures c.requires.place c.index-as_slice-place.is)

pub returns-in-Err-clause-refused : goal.returns-in-Err-clause-refused
returns-in-Err-clause-refused c =
    let ms = c.args.given.now.modules.now in
    let m = c.args.owner.now in
    let f = c.index-as_slice-place.result in
    stops_in ms c.args.number m c.requires.owner c.args.place f (at m.functions c.as_slice.result.now c.args.place f c.as_slice.ensures c.requires.place c.index-as_slice-place.is)
    c.in-Err.refusal (entered_hold ms (before ms c.args.number m c.args.place) c.args.entries.now.list c.requires.entries.list) c.in-Err.ensures.refused

pub overflow_cast-place : goal.overflow_cast-place
overflow_cast-place c =
    let ms = c.args.given.now.modules.now in
    let m = c.args.owner.now in
    let f = c.index-as_slice-place.result in
    let low = few_places ms c.args.number m c.requires.owner c.args.place f (at m.functions c.as_slice.result.now c.args.place f c.as_slice.ensures c.requires.place c.index-as_slice-place.is) c.args.given.now.ready.functions in
    omega arith

pub overflow_cast-items : goal.overflow_cast-items
overflow_cast-items c =
    let ms = c.args.given.now.modules.now in
    let m = c.args.owner.now in
    let f = c.index-as_slice-place.result in
    let low = items_so_far ms c.args.number m c.requires.owner c.args.place f (at m.functions c.as_slice.result.now c.args.place f c.as_slice.ensures c.requires.place c.index-as_slice-place.is) in
    let all = c.args.given.now.ready.items in
    let e = c.len-items.ensures in
    omega arith

pub push-requires : goal.push-requires
push-requires c =
    let ms = c.args.given.now.modules.now in
    let m = c.args.owner.now in
    let f = c.index-as_slice-place.result in
    let low = items_so_far ms c.args.number m c.requires.owner c.args.place f (at m.functions c.as_slice.result.now c.args.place f c.as_slice.ensures c.requires.place c.index-as_slice-place.is) in
    let all = c.args.given.now.ready.items in
    let e = c.len-items.ensures in
    let so_far = c.requires.entries.items in
    omega arith

pub returns-clause-entries : goal.returns-clause-entries
returns-clause-entries c =
    let ms = c.args.given.now.modules.now in
    let m = c.args.owner.now in
    let f = c.index-as_slice-place.result in
    let here = at m.functions c.as_slice.result.now c.args.place f c.as_slice.ensures c.requires.place c.index-as_slice-place.is in
    let more = before_more ms c.args.number m c.requires.owner c.args.place f here in
    let so_far = before ms c.args.number m c.args.place in
    let e : Entry = record { owner = c.args.number; place = c.args.place; first_item = c.args.entries.now.items; standings = c.in-Ok.table } in
    let new : IsEntry ms (items_in so_far) (placed_in m f) e =
    record { owner = c.requires.owner; place = here; first_is = c.requires.entries.items; standings = c.in-Ok.ensures.standings; holds = c.in-Ok.ensures.holds }
    in
    record {
      list = subst (λ (es : List Entry). AreEntries ms (before ms c.args.number m (c.args.place + 1)) es) (sym c.in_ok-push.ensures.list)
          (subst (λ (fs : List Placed). AreEntries ms fs (c.args.entries.now.list ++ e ∷ [])) (sym more) (one_entered ms so_far c.args.entries.now.list (placed_in m f) e c.requires.entries.list new));
      items = (
          let new_items = c.in_ok-push.ensures.items in
          let old_items = c.requires.entries.items in
          let len = c.len-items.ensures in
          let sum = items_append so_far (placed_in m f ∷ []) in
          let all = ap items_in more in
          omega arith
          );
    }
