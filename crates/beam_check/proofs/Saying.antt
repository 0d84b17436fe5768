-- What is said of an item is said of every path there, since paths come to items of their function alone.
use Rattle.std.proofs.Common.{◌≡◌, ℕ, ◌<◌, ◌^◌, sym, ◌∙◌, subst, arith, inl, inr, List, Option, Some, None, length}
use Rattle.std.specs.List.{Contains}
use Rattle.std.proofs.lemmas.Option.{get_or_from_slice_get, slice_get_cases, slice_get_within}
use Rattle.paths.specs.Paths.{Free}
use Rattle.beam_code.specs.declared.module.HandlerKind.{HandlerKind}
use Rattle.beam_code.specs.declared.module.Module.{Module}
use Rattle.beam_code.specs.Function.{Placed, all_functions, function_at}
use Rattle.path_rules.specs.Points.{Point, graph}
use Rattle.path_rules.proofs.Staying.{free_stays}
use Rattle.path_flows.proofs.Moved.{IsLow}
use Rattle.module_check.specs.Checks.{IsAbout, IsHandlerAt, IsStackAt}
use Rattle.beam_check.specs.Carried.{IsHandlerOf, IsStackOf}
use Rattle.beam_check.specs.Texts.{AreOfTheirTexts}
use Rattle.beam_check.proofs.Lows.{free_low}
use Rattle.beam_check.proofs.Sound.{read}

module _ (ms : List Module) (texts : AreOfTheirTexts ms) (fid : ℕ) where
  there : (f : Placed) → function_at ms fid ≡ Some f → Contains (all_functions ms) f
  there f e = (fid, slice_get_within (all_functions ms) fid f e, get_or_from_slice_get (all_functions ms) fid f f e)

  stays : (f : Placed) → function_at ms fid ≡ Some f → (n : ℕ) (p : Point) → Free (graph ms f.function) n p → p.item < length f.function.items
  stays f e n p free = free_stays ms f.function (read ms texts f (there f e)).entry n p free

  pub stack_of : (item : ℕ) (said : Option (Option ℕ)) → IsAbout ms fid (λ f. IsStackAt ms f item said) said → IsAbout ms fid (λ f. IsStackOf ms f item said) said
  stack_of item said a = record {
    is = λ f e. record { every = λ n p free at. (a.is f e).every n p free at (subst (λ i. i < length f.function.items) at (stays f e n p free)); some = (a.is f e).some };
    none = a.none;
  }

  pub handler_of : (item : ℕ) (said : Option (ℕ × HandlerKind)) → IsAbout ms fid (λ f. IsHandlerAt ms f item said) said → IsAbout ms fid (λ f. IsHandlerOf ms f item said) said
  handler_of item said a = record {
    is = λ f e. record { every = λ n p free at. (a.is f e).every n p free at (subst (λ i. i < length f.function.items) at (stays f e n p free)); some = (a.is f e).some };
    none = a.none;
  }

  -- and a stack that is said is small
  pub small : (item : ℕ) (said : Option (Option ℕ)) (size : ℕ) → IsAbout ms fid (λ f. IsStackAt ms f item said) said → said ≡ Some (Some size) → size < 2 ^ 16
  small item said size a is =
      elim (slice_get_cases (all_functions ms) fid).1 [
        | inl r ↦ at r.0 r.2
        | inr r ↦ (let none = a.none r.1 in let clash : None ≡ Some (Some size) = sym none ∙ is in absurd cc)
      ]
    where
      at : (f : Placed) → function_at ms fid ≡ Some f → size < 2 ^ 16
      at f e =
          let s = (stack_of item said a).is f e in
          let path = s.some (Some size) is in
          let same : Some (Some size) ≡ Some path.1.stack = sym is ∙ s.every path.0 path.1 path.2 path.3 in
          let low : IsLow path.1.stack = free_low ms f.function (read ms texts f (there f e)).range path.0 path.1 path.2 in
          let low_size : IsLow (Some size) = subst (λ (o : Option ℕ). IsLow o) (sym (some_is same)) low in
          omega (arith, low_size)
        where
          some_is : {a b : Option ℕ} → Some a ≡ Some b → a ≡ b
          some_is e = cc
