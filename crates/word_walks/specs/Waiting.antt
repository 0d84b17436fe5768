-- What is still to come of a text while words are walked over: of each row what its words show, and the mark that closes it.
use Rattle.std.specs.Prelude.{ℕ, zero, suc, ◌≡◌, ◌+◌, ◌-◌, ◌*◌, ◌<◌, ◌≤◌, List, [], ◌++◌, Option, Some, None, codes, slice_index_or, nat_eq, true, if◌then◌else◌}
use Rattle.tagged_words.specs.Seen.{Seen, AllSeen, Sees, SeesAll, seen_size}
use Rattle.tagged_words.specs.Store.{Store, is_whole, words_in}
use Rattle.term_tree.specs.Text.{text_of, elements_text, behind_element}
use Rattle.term_tree.specs.Tree.{Tree, Trees, Int, Atom, Nil, Cons, Tuple, No, More}
use Rattle.word_walks.specs.declared.scratch.Inside.{Inside}
use Rattle.word_walks.specs.declared.scratch.Inside.TheVariants as inside
use Rattle.word_walks.specs.declared.scratch.Row.{Row}
use Rattle.word_walks.specs.declared.scratch.TheConstants.{BLANK}
use Rattle.word_walks.specs.declared.shown.Place.{Place}
use Rattle.word_walks.specs.declared.shown.Place.TheVariants.{First, Behind, Tail}
use Rattle.word_walks.specs.declared.walk.Step.{Step}
use Rattle.word_walks.specs.declared.walk.Step.TheVariants as step
use Rattle.word_walks.specs.declared.walk.Walk.{Walk}
use Rattle.word_walks.specs.Ordinal.{ordinal}
use Rattle.word_walks.specs.Shown.{is_bad}
use Rattle.tagged_words.specs.declared.look.Look.{Look}
use Rattle.word_walks.specs.Spelt.{Walked, then_walked, walked, all_walked, tree_in, trees_in}

-- what follows an element of a list, but for the closing bracket
abbrev pub tail_text : Tree → List ℕ
tail_text (Int i) = codes "|" ++ text_of (Int i)
tail_text (Atom a) = codes "|" ++ text_of (Atom a)
tail_text Nil = []
tail_text (Cons h t) = codes "," ++ (text_of h ++ tail_text t)
tail_text (Tuple ts) = codes "|" ++ text_of (Tuple ts)

abbrev pub place_text : Place → Tree → List ℕ
place_text First t = text_of t
place_text Behind t = codes "," ++ text_of t
place_text Tail t = tail_text t

-- the last word of a list's row is its tail
abbrev pub word_text : Tree → Trees → List ℕ
word_text t No = tail_text t
word_text t (More u us) = text_of t

abbrev pub list_text : Trees → List ℕ
list_text No = codes "]"
list_text (More t ts) = word_text t ts ++ list_text ts

abbrev pub row_text : Inside → Trees → List ℕ
row_text inside.List ts = list_text ts
row_text inside.Elements ts = elements_text ts ++ codes "}"
row_text inside.Others ts = behind_element ts ++ codes "}"

-- nodes with no bad word among them
abbrev pub so_far : ℕ → Walked
so_far nodes = record { nodes = nodes; bad = None }

-- a row shows this text and these nodes, before more of both
pub record RowWaits (s : Store) (names : List (List ℕ)) (row : Row) (more : List ℕ) (later : Walked) (text : List ℕ) (all : Walked) : Type 0 where
  pub words : AllSeen
  pub count : seen_size words ≡ row.count
  pub seen : SeesAll s names row.left_cell row.left words
  pub spelt : text ≡ row_text row.inside (trees_in words) ++ more
  pub walked : all ≡ then_walked (all_walked words) later

-- so many rows do, from the last one down
unfoldable pub Waits : Store → List (List ℕ) → List Row → ℕ → List ℕ → Walked → Type 0
Waits s names rows zero text all = (text ≡ []) × (all ≡ so_far 0)
Waits s names rows (suc k) text all =
    (more : List ℕ) × (later : Walked) × RowWaits s names (slice_index_or rows k BLANK) more later text all × Waits s names rows k more later

-- the text that is there and what waits are this text, and so with the nodes
pub record Left (s : Store) (names : List (List ℕ)) (rows : List Row) (used : ℕ) (out : List ℕ) (nodes : ℕ) (text : List ℕ) (all : Walked) : Type 0 where
  pub more : List ℕ
  pub later : Walked
  pub waits : Waits s names rows used more later
  pub spelt : text ≡ out ++ more
  pub walked : all ≡ then_walked (so_far nodes) later

-- the last row has only the closing bracket of a list left
pub record IsListEnd (row : Row) : Type 0 where
  pub count : row.count ≡ 0
  pub inside : row.inside ≡ inside.List

-- the same where a word is come by before all rows
pub record Ahead (s : Store) (names : List (List ℕ)) (rows : List Row) (used : ℕ) (out : List ℕ) (nodes limit word : ℕ) (place : Place) (text : List ℕ) (all : Walked)
    : Type 0
  where
    pub seen : Seen
    pub more : List ℕ
    pub later : Walked
    pub sees : Sees s names limit word seen
    pub waits : Waits s names rows used more later
    pub end : place ≡ Tail → (0 < used) × IsListEnd (slice_index_or rows (used - 1) BLANK)
    pub spelt : text ≡ out ++ (place_text place (tree_in seen) ++ more)
    pub walked : all ≡ then_walked (so_far nodes) (then_walked (walked seen) later)

-- why a walk ends at a word, if it does: the word stands for no term, or else no node is left for it
abbrev pub stop : Look → ℕ → ℕ → ℕ → Option Step
stop l word nodes budget = if is_bad l then Some (step.Bad word) else if nat_eq nodes budget then Some step.Large else None

-- what a step comes to
abbrev pub StepHolds : Store → List (List ℕ) → List Row → List ℕ → ℕ → Step → List ℕ → Walked → Type 0
StepHolds s names rows out budget (step.Goes walk) text all = Left s names rows walk.used out walk.nodes text all
StepHolds s names rows out budget step.Large text all = budget < all.nodes
StepHolds s names rows out budget (step.Bad w) text all = (all.nodes ≤ budget) × (all.bad ≡ Some w)

-- a row leads low enough for all that may still be put behind it, and its words are there
pub record RowFits (s : Store) (k : ℕ) (row : Row) : Type 0 where
  pub low : k + 1 + ordinal s row.left_cell ≤ words_in s
  pub there : 0 < row.count → is_whole s row.left row.count ≡ true

abbrev pub RowsFit : Store → List Row → ℕ → Type 0
RowsFit s rows used = (k : ℕ) → k < used → RowFits s k (slice_index_or rows k BLANK)

-- so much is still to be done at most: a step takes a node or closes a row
abbrev pub walk_weight : ℕ → Walk → ℕ
walk_weight budget walk = 2 * (budget - walk.nodes) + walk.used

abbrev pub StepFits : Store → List Row → ℕ → ℕ → Step → Type 0
StepFits s rows budget bound (step.Goes walk) = (walk.nodes ≤ budget) × (walk_weight budget walk < bound) × RowsFit s rows walk.used
StepFits s rows budget bound step.Large = Unit {0}
StepFits s rows budget bound (step.Bad w) = Unit {0}
