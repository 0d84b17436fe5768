-- What is live at an item is all that a row from there can read.
use Rattle.std.proofs.Common.{◌≡◌, ℕ, ◌+◌, ◌<◌, true, false, not, ◌&&◌, List, [], ◌∷◌, ◌++◌, Option, Some, None, length, nat_lt, slice_get, refl, subst, sym, arith, if◌then◌else◌}
use Rattle.std.specs.List.{Contains}
use Rattle.std.proofs.lemmas.Bool.{lt-ltb}
use Rattle.std.proofs.lemmas.List.Elements.{Contains-append_left, Contains-append_right}
use Rattle.std.proofs.lemmas.Option.{slice_get_within}
use Rattle.paths.proofs.Tests.{here}
use Rattle.paths.specs.Paths.{Free}
use Rattle.beam_code.specs.declared.module.Module.{Module}
use Rattle.beam_code.specs.Function.{Placed}
use Rattle.beam_code.specs.Gates.{may_raise}
use Rattle.beam_code.specs.Lined.{Lined}
use Rattle.beam_code.specs.Shape.{Shape, shape_of}
use Rattle.beam_code.specs.Uses.{shape_goes_on}
use Rattle.path_rules.specs.Points.{Point, at_labels, behind, graph, handlers, labels_of, onward}
use Rattle.path_rules.specs.Tags.{lowest_tag}
use Rattle.live_slots.specs.Agree.{Agree, RowsReadWhatIsLive, live_in}
use Rattle.live_slots.proofs.Rows.{Knows, row_same}
use Rattle.run_laws.proofs.Landing.{label_among}
use Rattle.live_slots.specs.Live.{IsLive, Leads, Name, keeping_at, keeping_of, loads, loads_at, stores}

module _ (ms : List Module) (f : Placed) where
  loading : (name : Name) (p : Point) (o : Option Lined) → loads_at name p o ≡ true → (i : Lined) × (o ≡ Some i)
  loading name p None e = absurd cc
  loading name p (Some i) e = (i, refl)

  moving : (name : Name) (p q : Point) (o : Option Lined) → Contains (keeping_at ms f.function name p o) q → (i : Lined) × (o ≡ Some i)
  moving name p q None c = absurd (let low = c.1 in omega arith)
  moving name p q (Some i) c = (i, refl)

  within_at : (item at : ℕ) → at ≡ item → (i : Lined) × (slice_get f.function.items at ≡ Some i) → item < length f.function.items
  within_at item at e t = subst (λ k. k < length f.function.items) e (slice_get_within f.function.items at t.0 t.1)

  -- what is live is live at an item
  within : (name : Name) (item : ℕ) (path : List ℕ) → Leads ms f.function name item path → item < length f.function.items
  within name item [] l = within_at item l.point.item l.at (loading name l.point (slice_get f.function.items l.point.item) l.loads)
  within name item (next ∷ path) l = within_at item l.0.point.item l.0.at (moving name l.0.point l.0.to (slice_get f.function.items l.0.point.item) l.0.move)

  module _ (n : ℕ) (p : Point) (i : Lined) (free : Free (graph ms f.function) n p) (there : slice_get f.function.items p.item ≡ Some i) where
    abbrev shape : Shape
    shape = shape_of i.instr

    loaded : (name : Name) → loads shape p.stack name ≡ true → IsLive ms f.function name p.item
    loaded name e = ([], record { moves = n; point = p; free = free; at = refl; loads = subst (λ o. loads_at name p o ≡ true) (sym there) e })

    pub kept : (name : Name) (to : Point) → Contains (keeping_of ms f.function name p shape) to → IsLive ms f.function name to.item → IsLive ms f.function name p.item
    kept name to move live = (
      to.item ∷ live.0,
      (record { moves = n; point = p; free = free; at = refl; to = to; move = subst (λ o. Contains (keeping_at ms f.function name p o) to) (sym there) move; arrives = refl }, live.1),
    )

    onward_kept : (name : Name) → shape_goes_on shape ≡ true → stores shape p.stack name ≡ false → p.item + 1 < length f.function.items → Contains (keeping_of ms f.function name p shape) (behind shape p)
    onward_kept name goes off low =
        let on : nat_lt (p.item + 1) (length f.function.items) ≡ true = lt-ltb (p.item + 1) (length f.function.items) low in
        Contains-append_left (if not (stores shape p.stack name) then onward f.function shape p else [])
        (at_labels f.function p (labels_of shape) ++ (if may_raise ms shape then handlers f.function p (lowest_tag p.tags) else [])) (behind shape p)
        (subst (λ b. Contains (if not b then onward f.function shape p else []) (behind shape p)) (sym off)
        (subst (λ b. Contains (if b && nat_lt (p.item + 1) (length f.function.items) then behind shape p ∷ [] else []) (behind shape p)) (sym goes)
        (subst (λ b. Contains (if b then behind shape p ∷ [] else []) (behind shape p)) (sym on) (here (behind shape p) [] (behind shape p) refl))))

    knows : Knows f (live_in ms f.function) p.stack p.item shape
    knows = record {
      loaded = loaded;
      onward = λ name goes off live. kept name (behind shape p) (onward_kept name goes off (within name (p.item + 1) live.0 live.1)) live;
      label = λ name label item c e live.
          kept name (record p { item = item; raised = false })
          (Contains-append_right (if not (stores shape p.stack name) then onward f.function shape p else [])
          (at_labels f.function p (labels_of shape) ++ (if may_raise ms shape then handlers f.function p (lowest_tag p.tags) else [])) (record p { item = item; raised = false })
          (Contains-append_left (at_labels f.function p (labels_of shape)) (if may_raise ms shape then handlers f.function p (lowest_tag p.tags) else []) (record p { item = item; raised = false })
          (label_among ms 0 0 f p shape (labels_of shape) label item c e))) live;
    }

pub rows_read_what_is_live : RowsReadWhatIsLive
rows_read_what_is_live ms limits f n p i l m free there at stack agree =
    row_same ms limits f (live_in ms f.function) p.stack p.item l m (record { item = sym at; stack_is = sym stack; agree = subst (λ k. Agree (live_in ms f.function k) l m) (sym at) agree }) (shape_of i.instr)
    (knows ms f n p i free there)
