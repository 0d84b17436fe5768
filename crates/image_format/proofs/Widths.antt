-- Bounds that follow from the rules of the parts.
use Rattle.std.proofs.Common.{◌≡◌, ℕ, ◌+◌, ◌*◌, ◌^◌, ◌<◌, ◌≤◌, List, [], ◌∷◌, ◌++◌, length, get_or, take, All, sym, ap, subst, ◌∙◌, arith}
use Rattle.byteorder.specs.Endian.{big_number}
use Rattle.std.specs.Int.{w32, from_be_bytes}
use Rattle.std.specs.List.{AllByRecursion}
use Rattle.std.specs.Str.{IsUtf8, encode_utf8_all}
use Rattle.std.specs.List.{flat_map}
use Rattle.std.proofs.lemmas.List.{length-append, take_more, flat_map_more}
use Rattle.std.proofs.lemmas.List.Elements.{All-from_recursion, All-more}
use Rattle.std.proofs.lemmas.Str.{chars-encodes, length-encode, len_utf8_bounds}
use Rattle.term_tree.specs.Name.{characters_in}
use Rattle.tagged_words.specs.Follow.{Follow}
use Rattle.image_format.specs.Fitting.{total_length}
use Rattle.image_format.specs.Spelling.{Puts, PutsAll}

-- the number of four bytes, in the words of byteorder and of std
pub number_is : (bytes : List ℕ) → big_number 4 bytes ≡ from_be_bytes w32 bytes
number_is bytes = omega arith

recursion_from_follow : {S A : Type 0} (P : S → A → Type 0) (next : S → A → S) (Q : A → Type 0) → ((s : S) (x : A) → P s x → Q x) → (s : S) (xs : List A) → Follow P next s xs → AllByRecursion Q xs
recursion_from_follow P next Q weaker s [] h = tt
recursion_from_follow P next Q weaker s (x ∷ xs) h = (weaker s x h.0, recursion_from_follow P next Q weaker (next s x) xs h.1)

-- what holds of each element after the ones before it, as far as it speaks of the element alone
pub All-from_follow : {S A : Type 0} (P : S → A → Type 0) (next : S → A → S) (Q : A → Type 0) → ((s : S) (x : A) → P s x → Q x) → (s : S) (xs : List A) → Follow P next s xs → All Q xs
All-from_follow P next Q weaker s xs h = All-from_recursion Q xs (recursion_from_follow P next Q weaker s xs h)

within_total : (most : ℕ) (ts : List (List ℕ)) → total_length ts ≤ most → most < 2 ^ 32 → AllByRecursion (λ t. length t < 2 ^ 32) ts
within_total most [] h lt = tt
within_total most (t ∷ ts) h lt = (omega arith, within_total most ts (omega arith) lt)

-- texts that are short enough together are short enough each
pub All-within_total : (most : ℕ) (ts : List (List ℕ)) → total_length ts ≤ most → most < 2 ^ 32 → All (λ t. length t < 2 ^ 32) ts
All-within_total most ts h lt = All-from_recursion (λ t. length t < 2 ^ 32) ts (within_total most ts h lt)

length_encodes : (cs : List ℕ) → length (encode_utf8_all cs) ≤ 4 * length cs
length_encodes [] = omega arith
length_encodes (c ∷ cs) = omega (arith, length-append {A = ℕ}, length-encode c, len_utf8_bounds c, length_encodes cs)

-- a character has at most four bytes
pub length_of_text : (bs : List ℕ) → IsUtf8 bs → length bs ≤ 4 * characters_in bs
length_of_text bs h = subst (λ (x : List ℕ). length x ≤ 4 * characters_in x) h.1.1 (let e : characters_in (encode_utf8_all h.0) ≡ length h.0 = ap length (chars-encodes h.0 h.1.0) in omega (arith, e, length_encodes h.0))

-- one more item is written
pub item_put : {A : Type 0} (f : A → List ℕ) (P : A → Type 0) (first out after : List ℕ) (xs : List A) (i : ℕ) (x : A) → i < length xs → x ≡ get_or xs i x → PutsAll f P (take i xs) first out → Puts f P x out after → PutsAll f P (take (i + 1) xs) first after
item_put f P first out after xs i x lt e so_far put = (
  put.0 ∙ ap (λ (l : List ℕ). l ++ f x) so_far.0 ∙ flat_map_more f first (take i xs) x ∙ ap (λ y. first ++ flat_map f (take i xs ++ y ∷ [])) e ∙ ap (λ l. first ++ flat_map f l) (sym (take_more xs i x lt)),
  All-more P xs i x lt so_far.1 (subst P e put.1),
)
