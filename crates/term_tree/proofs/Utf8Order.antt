-- The bytes of two texts in UTF-8 stand in the order of their characters.
use Rattle.std.proofs.Common.{◌≡◌, ℕ, ◌+◌, ◌/◌, ◌<◌, ◌≤◌, List, [], ◌∷◌, ◌++◌, inl, inr, refl, sym, ap, ◌∙◌, arith}
use Rattle.std.specs.declared.cmp.Ordering.TheVariants.{Less, Equal, Greater}
use Rattle.std.specs.Ordering.{nat_cmp, ordering_reverse}
use Rattle.std.specs.Cmp.Lexicographic.{slice_cmp}
use Rattle.std.specs.Str.{chars, IsUtf8}
use Rattle.std.proofs.lemmas.Bool.{cases_lt}
use Rattle.std.proofs.lemmas.Bool.Decides.{nat_tests}
use Rattle.std.proofs.lemmas.Cmp.{ranked, by_ranked, nat_list_cmp_total}
use Rattle.std.proofs.lemmas.Str.{encodes-chars}
use lib.Utf8.{encode, encodes, next}

-- one element more on either side
lex_less : (x y : ℕ) (xs ys : List ℕ) → x < y → slice_cmp nat_cmp (x ∷ xs) (y ∷ ys) ≡ Less
lex_less x y xs ys h = let e : nat_cmp x y ≡ Less = grind (arith, nat_tests) in rw e refl

lex_same : (x y : ℕ) (xs ys : List ℕ) → x ≡ y → slice_cmp nat_cmp (x ∷ xs) (y ∷ ys) ≡ slice_cmp nat_cmp xs ys
lex_same x y xs ys h = let e : nat_cmp x y ≡ Equal = grind (arith, nat_tests) in rw e refl

lex : (x y : ℕ) (xs ys : List ℕ) → x ≤ y → (x ≡ y → slice_cmp nat_cmp xs ys ≡ Less) → slice_cmp nat_cmp (x ∷ xs) (y ∷ ys) ≡ Less
lex x y xs ys h k = by_ranked (x < y) (x ≡ y) (y < x) (nat_cmp x y) (ranked x y (nat_cmp x y) refl)
    (λ e l. lex_less x y xs ys l) (λ e l. lex_same x y xs ys l ∙ k l) (λ e l. absurd (omega arith))

-- the bytes of a character, by their number
data Spelling (c : ℕ) : Type 0 where
  one : c < 128 → encode c ≡ c ∷ [] → Spelling c
  two : 128 ≤ c → c < 2048 → encode c ≡ (192 + c / 64) ∷ next c ∷ [] → Spelling c
  three : 2048 ≤ c → c < 65536 → encode c ≡ (224 + c / 4096) ∷ next (c / 64) ∷ next c ∷ [] → Spelling c
  four : 65536 ≤ c → encode c ≡ (240 + c / 262144) ∷ next (c / 4096) ∷ next (c / 64) ∷ next c ∷ [] → Spelling c

encode_one : (c : ℕ) → c < 128 → encode c ≡ c ∷ []
unfolding encode
encode_one c h = grind (arith, nat_tests)

encode_two : (c : ℕ) → 128 ≤ c → c < 2048 → encode c ≡ (192 + c / 64) ∷ next c ∷ []
unfolding encode
encode_two c h k = grind (arith, nat_tests)

encode_three : (c : ℕ) → 2048 ≤ c → c < 65536 → encode c ≡ (224 + c / 4096) ∷ next (c / 64) ∷ next c ∷ []
unfolding encode
encode_three c h k = grind (arith, nat_tests)

encode_four : (c : ℕ) → 65536 ≤ c → encode c ≡ (240 + c / 262144) ∷ next (c / 4096) ∷ next (c / 64) ∷ next c ∷ []
unfolding encode
encode_four c h = grind (arith, nat_tests)

spelling : (c : ℕ) → Spelling c
spelling c = elim (cases_lt c 128) [
  | inl h ↦ one h (encode_one c h)
  | inr h ↦ elim (cases_lt c 2048) [
    | inl k ↦ two h k (encode_two c h k)
    | inr k ↦ elim (cases_lt c 65536) [ inl l ↦ three k l (encode_three c k l) | inr l ↦ four l (encode_four c l) ]
  ]
]

char_less : (c d : ℕ) (xs ys : List ℕ) → c < d → Spelling c → Spelling d → slice_cmp nat_cmp (encode c ++ xs) (encode d ++ ys) ≡ Less
char_less c d xs ys h (one a e) (one b f) = rw (e, f) (lex c d xs ys (omega arith) (λ p. absurd (omega arith)))
char_less c d xs ys h (one a e) (two b b' f) = rw (e, f) (lex_less c (192 + d / 64) xs (next d ∷ ys) (omega arith))
char_less c d xs ys h (one a e) (three b b' f) = rw (e, f) (lex_less c (224 + d / 4096) xs (next (d / 64) ∷ next d ∷ ys) (omega arith))
char_less c d xs ys h (one a e) (four b f) = rw (e, f) (lex_less c (240 + d / 262144) xs (next (d / 4096) ∷ next (d / 64) ∷ next d ∷ ys) (omega arith))
char_less c d xs ys h (two a a' e) (one b f) = absurd (omega arith)
char_less c d xs ys h (two a a' e) (two b b' f) = rw (e, f) (lex (192 + c / 64) (192 + d / 64) (next c ∷ xs) (next d ∷ ys) (omega arith) (λ p. lex (next c) (next d) xs ys (omega arith) (λ q. absurd (omega arith))))
char_less c d xs ys h (two a a' e) (three b b' f) = rw (e, f) (lex_less (192 + c / 64) (224 + d / 4096) (next c ∷ xs) (next (d / 64) ∷ next d ∷ ys) (omega arith))
char_less c d xs ys h (two a a' e) (four b f) = rw (e, f) (lex_less (192 + c / 64) (240 + d / 262144) (next c ∷ xs) (next (d / 4096) ∷ next (d / 64) ∷ next d ∷ ys) (omega arith))
char_less c d xs ys h (three a a' e) (one b f) = absurd (omega arith)
char_less c d xs ys h (three a a' e) (two b b' f) = absurd (omega arith)
char_less c d xs ys h (three a a' e) (three b b' f) = rw (e, f) (lex (224 + c / 4096) (224 + d / 4096) (next (c / 64) ∷ next c ∷ xs) (next (d / 64) ∷ next d ∷ ys) (omega arith) (λ p. lex (next (c / 64)) (next (d / 64)) (next c ∷ xs) (next d ∷ ys) (omega arith) (λ q. lex (next c) (next d) xs ys (omega arith) (λ r. absurd (omega arith)))))
char_less c d xs ys h (three a a' e) (four b f) = rw (e, f) (lex_less (224 + c / 4096) (240 + d / 262144) (next (c / 64) ∷ next c ∷ xs) (next (d / 4096) ∷ next (d / 64) ∷ next d ∷ ys) (omega arith))
char_less c d xs ys h (four a e) (one b f) = absurd (omega arith)
char_less c d xs ys h (four a e) (two b b' f) = absurd (omega arith)
char_less c d xs ys h (four a e) (three b b' f) = absurd (omega arith)
char_less c d xs ys h (four a e) (four b f) = rw (e, f) (lex (240 + c / 262144) (240 + d / 262144) (next (c / 4096) ∷ next (c / 64) ∷ next c ∷ xs) (next (d / 4096) ∷ next (d / 64) ∷ next d ∷ ys) (omega arith) (λ p. lex (next (c / 4096)) (next (d / 4096)) (next (c / 64) ∷ next c ∷ xs) (next (d / 64) ∷ next d ∷ ys) (omega arith) (λ q. lex (next (c / 64)) (next (d / 64)) (next c ∷ xs) (next d ∷ ys) (omega arith) (λ r. lex (next c) (next d) xs ys (omega arith) (λ s. absurd (omega arith))))))

char_same : (ps xs ys : List ℕ) → slice_cmp nat_cmp (ps ++ xs) (ps ++ ys) ≡ slice_cmp nat_cmp xs ys
char_same [] xs ys = refl
char_same (p ∷ ps) xs ys = lex_same p p (ps ++ xs) (ps ++ ys) refl ∙ char_same ps xs ys

some_less : (c : ℕ) (xs : List ℕ) → Spelling c → slice_cmp nat_cmp [] (encode c ++ xs) ≡ Less
some_less c xs (one a e) = rw e refl
some_less c xs (two a b e) = rw e refl
some_less c xs (three a b e) = rw e refl
some_less c xs (four a e) = rw e refl

turned : (xs ys : List ℕ) → slice_cmp nat_cmp ys xs ≡ Less → slice_cmp nat_cmp xs ys ≡ Greater
turned xs ys h = nat_list_cmp_total.antisymm xs ys ∙ ap ordering_reverse h

encodes_order : (cs ds : List ℕ) → slice_cmp nat_cmp (encodes cs) (encodes ds) ≡ slice_cmp nat_cmp cs ds
encodes_order [] [] = refl
encodes_order [] (d ∷ ds) = some_less d (encodes ds) (spelling d)
encodes_order (c ∷ cs) [] = turned (encode c ++ encodes cs) [] (some_less c (encodes cs) (spelling c))
encodes_order (c ∷ cs) (d ∷ ds) = by_ranked (c < d) (c ≡ d) (d < c) (nat_cmp c d) (ranked c d (nat_cmp c d) refl)
    (λ e l. char_less c d (encodes cs) (encodes ds) l (spelling c) (spelling d) ∙ sym (lex_less c d cs ds l))
    (λ e l. rw l (char_same (encode d) (encodes cs) (encodes ds)) ∙ encodes_order cs ds ∙ sym (lex_same c d cs ds l))
    (λ e l. turned (encode c ++ encodes cs) (encode d ++ encodes ds) (char_less d c (encodes ds) (encodes cs) l (spelling d) (spelling c)) ∙ sym (turned (c ∷ cs) (d ∷ ds) (lex_less d c ds cs l)))

pub texts_order : (xs ys : List ℕ) → IsUtf8 xs → IsUtf8 ys → slice_cmp nat_cmp xs ys ≡ slice_cmp nat_cmp (chars xs) (chars ys)
texts_order xs ys u v = sym (ap (λ z. slice_cmp nat_cmp z ys) (encodes-chars xs u)) ∙ ap (λ z. slice_cmp nat_cmp (encodes (chars xs)) z) (sym (encodes-chars ys v)) ∙ encodes_order (chars xs) (chars ys)
