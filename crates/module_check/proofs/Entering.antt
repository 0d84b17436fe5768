-- One more function is entered.
use Rattle.std.proofs.Common.{◌≡◌, ℕ, ◌<◌, refl, ap, sym, ◌∙◌, arith, subst, inl, inr, List, [], ◌∷◌, ◌++◌, length, Some, take, slice_get}
use Rattle.std.specs.List.{Contains}
use Rattle.std.proofs.lemmas.List.{length_push, take-append-le}
use Rattle.std.proofs.lemmas.List.Elements.{Contains-push_cases}
use Rattle.std.proofs.lemmas.Option.{slice_get_within, slice_get_cases, slice_get_read}
use Rattle.std.proofs.Math.Seq.{take-append_seam}
use Rattle.beam_code.specs.declared.module.Module.{Module}
use Rattle.beam_code.specs.Function.{Placed, items_in}
use Rattle.path_search.proofs.Listing.{at_end}
use Rattle.function_check.specs.Order.{AllHold}
use Rattle.module_check.specs.declared.entry.Entry.{Entry}
use Rattle.module_check.specs.Entries.{AreEntries, IsEntry}
use Rattle.module_check.proofs.Placing.{found}

module _ (ms : List Module) where
  pub none_entered : AreEntries ms [] []
  none_entered = record { long = refl; each = λ k f e is. cc }

  module _ (fs : List Placed) (es : List Entry) (f : Placed) (e : Entry) (are : AreEntries ms fs es) (new : IsEntry ms (items_in fs) f e) where
    first_kept : (k : ℕ) (g : Placed) (x : Entry) → k < length fs → IsEntry ms (items_in (take k fs)) g x → IsEntry ms (items_in (take k (fs ++ f ∷ []))) g x
    first_kept k g x low is = subst (λ (hs : List Placed). IsEntry ms (items_in hs) g x) (sym (take-append-le k fs (f ∷ []) (omega arith))) is

    last_new : (k : ℕ) → k ≡ length fs → IsEntry ms (items_in (take k (fs ++ f ∷ []))) f e
    last_new k at = subst (λ (hs : List Placed). IsEntry ms (items_in hs) f e) (sym (ap (λ j. take j (fs ++ f ∷ [])) at ∙ take-append_seam fs (f ∷ []))) new

    each_of : (k : ℕ) (g : Placed) (x : Entry) → slice_get (fs ++ f ∷ []) k ≡ Some g → slice_get (es ++ e ∷ []) k ≡ Some x → IsEntry ms (items_in (take k (fs ++ f ∷ []))) g x
    each_of k g x is there =
        let long = are.long in
        elim (at_end fs f k g is) [
          | inl a ↦ elim (at_end es e k x there) [
            | inl b ↦ first_kept k g x (slice_get_within fs k g a) (are.each k g x a b)
            | inr b ↦ absurd (let low = slice_get_within fs k g a in let at = b.0 in omega arith)
          ]
          | inr a ↦ elim (at_end es e k x there) [
            | inl b ↦ absurd (let low = slice_get_within es k x b in let at = a.0 in omega arith)
            | inr b ↦ subst (λ (h : Placed). IsEntry ms (items_in (take k (fs ++ f ∷ []))) h x) a.1 (subst (λ (y : Entry). IsEntry ms (items_in (take k (fs ++ f ∷ []))) f y) b.1 (last_new k a.0))
          ]
        ]

    pub one_entered : AreEntries ms (fs ++ f ∷ []) (es ++ e ∷ [])
    one_entered = record { long = (let a = length_push es e in let b = length_push fs f in let c = are.long in omega arith); each = each_of }

  -- functions that were entered keep all rules
  pub entered_hold : (fs : List Placed) (es : List Entry) → AreEntries ms fs es → (g : Placed) → Contains fs g → AllHold ms g
  entered_hold fs es are g c =
      let long = are.long in
      let low = c.1 in
      elim (slice_get_cases es c.0).1 [
        | inl e ↦ (are.each c.0 g e.0 (slice_get_of fs c) e.2).holds
        | inr e ↦ absurd (let high = e.0 in omega arith)
      ]
    where
      slice_get_of : (fs : List Placed) (c : Contains fs g) → slice_get fs c.0 ≡ Some g
      slice_get_of fs c = slice_get_read fs (length fs) c.0 g refl c.1 (sym c.2)
