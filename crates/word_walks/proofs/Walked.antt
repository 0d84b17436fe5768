-- Nodes that are come by, one part of a term after the other.
use Rattle.std.proofs.Common.{◌≡◌, ℕ, ◌+◌, ◌≤◌, Option, Some, None, refl, ap, arith}
use Rattle.word_walks.specs.Spelt.{Walked, one_node, then_walked}
use Rattle.word_walks.specs.Waiting.{so_far}

abbrev come_by : ℕ → Option ℕ → Walked
come_by nodes bad = record { nodes = nodes; bad = bad }

with_nodes : (m n : ℕ) (bad : Option ℕ) → m ≡ n → come_by m bad ≡ come_by n bad
with_nodes m n bad e = ap (λ (k : ℕ). come_by k bad) e

parts_assoc : (m n : ℕ) (p q : Option ℕ) (c : Walked)
    → then_walked (come_by m p) (then_walked (come_by n q) c)
    ≡ then_walked (then_walked (come_by m p) (come_by n q)) c
parts_assoc m n None None c = with_nodes (m + (n + c.nodes)) (m + n + c.nodes) c.bad (omega arith)
parts_assoc m n None (Some w) c = refl
parts_assoc m n (Some v) q c = refl

pub then_assoc : (a b c : Walked) → then_walked a (then_walked b c) ≡ then_walked (then_walked a b) c
then_assoc a b c = parts_assoc a.nodes b.nodes a.bad b.bad c

-- nothing comes before or behind
pub nothing_first : (a : Walked) → then_walked (so_far 0) a ≡ a
nothing_first a = with_nodes (0 + a.nodes) a.nodes a.bad (omega arith)

parts_last : (m : ℕ) (p : Option ℕ) → then_walked (come_by m p) (so_far 0) ≡ come_by m p
parts_last m None = with_nodes (m + 0) m None (omega arith)
parts_last m (Some w) = refl

pub nothing_last : (a : Walked) → then_walked a (so_far 0) ≡ a
nothing_last a = parts_last a.nodes a.bad

-- a node more is behind
pub one_more : (n : ℕ) (a : Walked) → then_walked (so_far n) (then_walked one_node a) ≡ then_walked (so_far (n + 1)) a
one_more n a = with_nodes (n + (1 + a.nodes)) (n + 1 + a.nodes) a.bad (omega arith)

parts_grow : (m : ℕ) (p : Option ℕ) (b : Walked) → m ≤ (then_walked (come_by m p) b).nodes
parts_grow m None b = omega arith
parts_grow m (Some w) b = omega arith

pub then_grows : (a b : Walked) → a.nodes ≤ (then_walked a b).nodes
then_grows a b = parts_grow a.nodes a.bad b
