-- The first nodes of a flow.
use Rattle.std.proofs.Common.{◌≡◌, ℕ, zero, suc, ◌+◌, ◌<◌, Bool, refl, ap, sym, ◌∙◌, arith, inl, inr, Option, Some, List, [], ◌∷◌, ◌++◌, length, slice_get}
use Rattle.std.proofs.lemmas.Bool.{cases_eq}
use Rattle.std.proofs.lemmas.List.{length-append}
use Rattle.beam_code.specs.declared.module.Function.{Function}
use Rattle.beam_code.specs.declared.module.Module.{Module}
use Rattle.data_flow.specs.declared.flow.Node.{Node}
use Rattle.path_rules.specs.declared.frame_table.Frame.{Frame}
use Rattle.path_flows.specs.FlowOf.{AreNodes, node_at}

before : (nodes : List Node) (node : Node) (i : ℕ) → i < length nodes → slice_get (nodes ++ node ∷ []) i ≡ slice_get nodes i
before [] node i low = absurd (omega arith)
before (n ∷ ns) node zero low = refl
before (n ∷ ns) node (suc i) low = before ns node i (omega arith)

last : (nodes : List Node) (node : Node) → slice_get (nodes ++ node ∷ []) (length nodes) ≡ Some node
last [] node = refl
last (n ∷ ns) node = last ns node

pub record FirstNodes (ms : List Module) (f : Function) (counts : Bool) (frames : List (Option Frame)) (nodes : List Node) (n : ℕ) : Type 0 where
  pub long : length nodes ≡ n
  pub each : (i : ℕ) → i < n → slice_get nodes i ≡ Some (node_at ms f counts frames i)

module _ (ms : List Module) (f : Function) (counts : Bool) (frames : List (Option Frame)) where
  pub no_nodes : FirstNodes ms f counts frames [] 0
  no_nodes = record { long = refl; each = λ i low. absurd (omega arith) }

  pub one_more : (nodes : List Node) (n : ℕ) (node : Node) → FirstNodes ms f counts frames nodes n → node ≡ node_at ms f counts frames n → FirstNodes ms f counts frames (nodes ++ node ∷ []) (n + 1)
  one_more nodes n node first e = record {
    long = (let a = length-append nodes (node ∷ []) in let b = first.long in omega arith);
    each = λ i low. elim (cases_eq i n) [
      | inl s ↦ ap (slice_get (nodes ++ node ∷ [])) (s ∙ sym first.long) ∙ (last nodes node ∙ ap (λ (m : Node). Some m) (e ∙ ap (node_at ms f counts frames) (sym s)))
      | inr o ↦ before nodes node i (let b = first.long in omega arith) ∙ first.each i (omega arith)
    ];
  }

  pub all_nodes : (nodes : List Node) (n : ℕ) → n ≡ length f.items → FirstNodes ms f counts frames nodes n → AreNodes ms f counts frames nodes
  all_nodes nodes n e first = record { long = first.long ∙ e; each = λ i low. first.each i (omega arith) }
