-- What is kept of a function says what is asked of it.
use Rattle.std.proofs.Common.{◌≡◌, ℕ, ◌<◌, refl, ap, sym, ◌∙◌, subst, List, Option, Some, None, length, slice_get}
use Rattle.std.specs.Prelude.{option_and_then, option_map}
use Rattle.paths.specs.Paths.{Free}
use Rattle.beam_code.specs.declared.module.HandlerKind.{HandlerKind}
use Rattle.beam_code.specs.declared.module.Module.{Module}
use Rattle.beam_code.specs.Function.{Placed, function_at}
use Rattle.path_rules.specs.Points.{Point, graph}
use Rattle.path_rules.specs.Tags.{lowest_tag}
use Rattle.function_check.specs.declared.standing.Standing.{Standing}
use Rattle.function_check.specs.Standings.{AreStandings, handler_of}
use Rattle.module_check.specs.Checks.{IsAbout, IsHandlerAt, IsStackAt, standing_in}

pub about : {A : Type 0} (ms : List Module) (fid : ℕ) (Is : Placed → Type 0) (said : Option A) (f : Placed) → function_at ms fid ≡ Some f → Is f → IsAbout ms fid Is said
about ms fid Is said f at is = record {
  is = λ g e. subst Is (some_is (sym at ∙ e)) is;
  none = λ e. absurd (let clash : Some f ≡ None = sym at ∙ e in cc);
}
  where
    some_is : {a b : Placed} → Some a ≡ Some b → a ≡ b
    some_is e = cc

module _ (ms : List Module) (f : Placed) (table : List (Option Standing)) (are : AreStandings ms f table) (item : ℕ) where
  -- what the table says of the item of a path
  said_at : (n : ℕ) (p : Point) → Free (graph ms f.function) n p → p.item ≡ item → item < length f.function.items →
      standing_in table item ≡ Some (record { stack = p.stack; handler = handler_of f.function (lowest_tag p.tags) })
  said_at n p free at low =
      ap (λ o. option_and_then (λ s. s) o)
      (subst (λ i. slice_get table i ≡ Some (Some (record { stack = p.stack; handler = handler_of f.function (lowest_tag p.tags) }))) at
      (are.known n p free (subst (λ i. i < length f.function.items) (sym at) low)))

  -- where the table says something a path comes
  comes : {A : Type 0} (part : Standing → Option A) (a : A) → option_and_then part (standing_in table item) ≡ Some a → (n : ℕ) × (p : Point) × Free (graph ms f.function) n p × (p.item ≡ item)
  comes part a e = by (slice_get table item) refl e
    where
      by : (o : Option (Option Standing)) → slice_get table item ≡ o → option_and_then part (option_and_then (λ s. s) o) ≡ Some a → (n : ℕ) × (p : Point) × Free (graph ms f.function) n p × (p.item ≡ item)
      by None is e = absurd cc
      by (Some None) is e = absurd cc
      by (Some (Some s)) is e = are.reached item s is

  pub stack_said : IsStackAt ms f item (option_and_then (λ s. Some s.stack) (standing_in table item))
  stack_said = record {
    every = λ n p free at low. ap (λ o. option_and_then (λ s. Some s.stack) o) (said_at n p free at low);
    some = λ stack e. comes (λ s. Some s.stack) stack e;
  }

  pub handler_said : IsHandlerAt ms f item (option_and_then (λ s. s.handler) (standing_in table item))
  handler_said = record {
    every = λ n p free at low. ap (λ o. option_and_then (λ s. s.handler) o) (said_at n p free at low);
    some = λ handler e. comes (λ s. s.handler) handler e;
  }
