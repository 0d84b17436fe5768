-- What passes the test is a graph, and a graph passes it.
use Rattle.std.proofs.Common.{◌≡◌, ℕ, ◌<◌, Bool, true, false, ◌&&◌, ◌↔◌, List, [], ◌∷◌, length, nat_eq, nat_lt, refl, arith, eq-eqb}
use Rattle.std.specs.List.{All}
use Rattle.std.proofs.lemmas.Bool.{and_from}
use Rattle.std.proofs.lemmas.Bool.Decides.{nat_tests}
use Rattle.std.proofs.lemmas.List.Elements.{All-nil, All-cons, All-head, All-tail}
use Rattle.liveness.specs.declared.graph.Graph.{Graph}
use Rattle.liveness.specs.Live.{IsGraph}
use Rattle.liveness.specs.Whole.{all_below, lists_below, passes}

both_true : (a b : Bool) → (a && b) ≡ true → (a ≡ true) × (b ≡ true)
both_true true b t = (refl, t)
both_true false b t = absurd cc

lt_is : (x most : ℕ) → (nat_lt x most ≡ true) ↔ (x < most)
lt_is x most = (λ t. grind (arith, nat_tests), λ low. grind (arith, nat_tests))

below_is : (most : ℕ) (xs : List ℕ) → (all_below most xs ≡ true) ↔ All (λ x. x < most) xs
below_is most [] = (λ t. All-nil (λ x. x < most), λ all. refl)
below_is most (x ∷ xs) = (
  λ t. (let two = both_true (nat_lt x most) (all_below most xs) t in All-cons (λ x. x < most) x xs ((lt_is x most).0 two.0) ((below_is most xs).0 two.1)),
  λ all. and_from (nat_lt x most) (all_below most xs) ((lt_is x most).1 (All-head (λ x. x < most) x xs all)) ((below_is most xs).1 (All-tail (λ x. x < most) x xs all)),
)

lists_below_is : (most : ℕ) (xs : List (List ℕ)) → (lists_below most xs ≡ true) ↔ All (All (λ x. x < most)) xs
lists_below_is most [] = (λ t. All-nil (All (λ x. x < most)), λ all. refl)
lists_below_is most (x ∷ xs) = (
  λ t. (let two = both_true (all_below most x) (lists_below most xs) t in All-cons (All (λ x. x < most)) x xs ((below_is most x).0 two.0) ((lists_below_is most xs).0 two.1)),
  λ all. and_from (all_below most x) (lists_below most xs) ((below_is most x).1 (All-head (All (λ x. x < most)) x xs all)) ((lists_below_is most xs).1 (All-tail (All (λ x. x < most)) x xs all)),
)

same_is : (x y : ℕ) → nat_eq x y ≡ true → x ≡ y
same_is x y t = grind (arith, nat_tests)

pub passes_is : (graph : Graph) → (passes graph ≡ true) ↔ IsGraph graph
passes_is graph =
    let uses : Bool = nat_eq (length graph.uses) (length graph.next) in
    let writes : Bool = nat_eq (length graph.writes) (length graph.next) in
    let nodes : Bool = lists_below (length graph.next) graph.next in
    let used : Bool = lists_below graph.names graph.uses in
    let written : Bool = lists_below graph.names graph.writes in (
      λ t.
          let four = both_true (uses && writes && nodes && used) written t in
          let three = both_true (uses && writes && nodes) used four.0 in
          let two = both_true (uses && writes) nodes three.0 in
          let one = both_true uses writes two.0 in
          record {
            uses = same_is _ _ one.0;
            writes = same_is _ _ one.1;
            next_nodes = (lists_below_is (length graph.next) graph.next).0 two.1;
            used_names = (lists_below_is graph.names graph.uses).0 three.1;
            written_names = (lists_below_is graph.names graph.writes).0 four.1;
          },
      λ ok.
          and_from (uses && writes && nodes && used) written
          (and_from (uses && writes && nodes) used
          (and_from (uses && writes) nodes
          (and_from uses writes (eq-eqb _ _ ok.uses) (eq-eqb _ _ ok.writes))
          ((lists_below_is (length graph.next) graph.next).1 ok.next_nodes))
          ((lists_below_is graph.names graph.uses).1 ok.used_names))
          ((lists_below_is graph.names graph.writes).1 ok.written_names),
    )
