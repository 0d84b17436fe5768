-- What the rules say of every path of a function.
use Rattle.std.proofs.Common.{◌≡◌, ℕ, zero, suc, ◌+◌, ◌<◌, refl, sym, subst, List, Some, None, length, arith}
use Rattle.std.specs.Prelude.{Option, slice_get}
use Rattle.std.specs.List.{Contains}
use Rattle.std.proofs.lemmas.Option.{slice_get_within}
use Rattle.paths.specs.Paths.{Free}
use Rattle.paths.specs.Rules.{Holds, Leads, Step}
use Rattle.paths.proofs.Free.{free_step}
use Rattle.paths.proofs.Short.{free_short}
use Rattle.beam_code.specs.declared.module.Module.{Module}
use Rattle.beam_code.specs.Lined.{Lined}
use Rattle.beam_code.specs.Function.{Placed, all_functions}
use Rattle.path_rules.specs.declared.rule.Rule.{Rule}
use Rattle.path_rules.specs.declared.rule.Rule.TheVariants.{Loop, StackSize, TagState}
use Rattle.path_rules.specs.Laws.{Ends, KeepsRules, Onward}
use Rattle.path_rules.specs.Points.{Point, graph, item_of, moves_at}
use Rattle.path_rules.specs.Profile.{InProfile}
use Rattle.path_rules.specs.Rules.{RuleHolds, ways}
use Rattle.path_rules.proofs.Alone.{alone, free_is_fine, loop_unbroken, one_frame}

-- no rule is broken where it holds
pub unbroken : (ms : List Module) (f : Placed) (rule : Rule) → RuleHolds ms f rule → Holds (ways ms f rule)
unbroken ms f Loop holds = loop_unbroken ms f
unbroken ms f _ holds = holds

pub keeps_rules : (ms : List Module) (f : Placed) → ((rule : Rule) → RuleHolds ms f rule) → KeepsRules ms f
keeps_rules ms f holds = record {
  fine = λ rule n p free. free_is_fine ms f (holds StackSize) (holds TagState) rule (unbroken ms f rule (holds rule)) n p free;
  stack = λ m n p q a b at. (one_frame ms f (holds StackSize) (holds TagState) m n p q a b at).0;
  tags = λ m n p q a b at. (one_frame ms f (holds StackSize) (holds TagState) m n p q a b at).1;
}

-- a path goes on only from an item
moves_within : (ms : List Module) (f : Placed) (p q : Point) → Contains ((graph ms f.function).moves p) q → p.item < length f.function.items
moves_within ms f p q move = by (slice_get f.function.items p.item) refl move
  where
    by : (o : Option Lined) → slice_get f.function.items p.item ≡ o → Contains (moves_at ms f.function p o) q → p.item < length f.function.items
    by None e c = (let none = c.1 in absurd (omega arith))
    by (Some i) e c = slice_get_within f.function.items p.item i e

module _ (ms : List Module) (f : Placed) (stack : RuleHolds ms f StackSize) (tags : RuleHolds ms f TagState) where
  -- each move of a path is one that Loop sees
  steps : (n : ℕ) (p q : Point) → Free (graph ms f.function) n p → Contains ((graph ms f.function).moves p) q → Step (ways ms f Loop) item_of (item_of p) (item_of q)
  steps n p q free move = free_step (ways ms f Loop) (alone ms f stack tags) (loop_unbroken ms f) item_of n p q free move

  further : (n k : ℕ) (p q : Point) → Free (graph ms f.function) n p → Onward (graph ms f.function) k p q → Free (graph ms f.function) (k + n) q
  further n zero p q free on = (let e : 0 + n ≡ n = omega arith in subst (λ m. Free (graph ms f.function) m q) (sym e) (subst (λ (r : Point). Free (graph ms f.function) n r) (sym on) free))
  further n (suc k) p q free on =
      (let e : suc k + n ≡ suc (k + n) = omega arith in subst (λ m. Free (graph ms f.function) m q) (sym e) (on.0, further n k p on.0 free on.1, on.2))

  onward_leads : (n k : ℕ) (p q : Point) → Free (graph ms f.function) n p → Onward (graph ms f.function) (suc k) p q → Leads (ways ms f Loop) item_of k (item_of p) (item_of q)
  onward_leads n zero p q free on = subst (λ (r : Point). Step (ways ms f Loop) item_of (item_of r) (item_of q)) on.1 (steps n on.0 q (subst (λ (r : Point). Free (graph ms f.function) n r) (sym on.1) free) on.2)
  onward_leads n (suc k) p q free on = (item_of on.0, onward_leads n k p on.0 free on.1, steps (suc k + n) on.0 q (further n (suc k) p on.0 free on.1) on.2)

  pub ends : RuleHolds ms f Loop → Ends ms f
  ends no_loop = record {
    once = λ n k p q free on at. no_loop k (item_of p) (subst (λ a. Leads (ways ms f Loop) item_of k (item_of p) a) (sym at) (onward_leads n k p q free on));
    short = λ n p free within. free_short (ways ms f Loop) item_of steps no_loop (length f.function.items) (λ x y move. moves_within ms f x y move) n p free within;
  }

pub profile_keeps : (ms : List Module) (f : Placed) → InProfile ms → Contains (all_functions ms) f → KeepsRules ms f
profile_keeps ms f profile among = keeps_rules ms f (profile.rules f among)

pub profile_ends : (ms : List Module) (f : Placed) → InProfile ms → Contains (all_functions ms) f → Ends ms f
profile_ends ms f profile among = ends ms f (profile.rules f among StackSize) (profile.rules f among TagState) (profile.rules f among Loop)
