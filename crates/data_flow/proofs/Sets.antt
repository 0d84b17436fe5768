-- Laws of sets of names: each holds of words, by their bits, and so of the four words of a set.
use Rattle.std.proofs.Common.{◌≡◌, ℕ, ◌<◌, ◌≤◌, Bool, true, false, ◌&&◌, refl, ap, sym, ◌∙◌, arith, bit_or, bit_and, nat_eq, min, max, inl, inr}
use Rattle.std.specs.Int.{bit_at}
use Rattle.std.specs.Int.Bits.{and_self}
use Rattle.std.proofs.lemmas.Bool.{cases_eq}
use Rattle.std.proofs.lemmas.Bool.Decides.{nat_tests}
use Rattle.std.proofs.lemmas.Nat.{and_comm, and_assoc, and_le_r}
use Rattle.std.proofs.lemmas.Nat.Bits.{bit_at_and, bit_at_or, bit_at-lt, bit_at-zero, same_from_bits}
use Rattle.data_flow.specs.declared.names.Names.{Names}
use Rattle.data_flow.specs.Names.{meet, join, same, no_names, Within, AreNames, spare_names}

-- ---- words

word_trans : (x y z : ℕ) → bit_and x y ≡ x → bit_and y z ≡ y → bit_and x z ≡ x
word_trans x y z e f = ap (λ q. bit_and q z) (sym e) ∙ (and_assoc z x y ∙ (ap (λ q. bit_and x q) f ∙ e))

word_first : (x y : ℕ) → bit_and x (bit_or x y) ≡ x
word_first x y = same_from_bits (bit_and x (bit_or x y)) x (λ i. let e = bit_at_and x (bit_or x y) i in let f = bit_at_or x y i in omega arith)

word_second : (x y : ℕ) → bit_and y (bit_or x y) ≡ y
word_second x y = same_from_bits (bit_and y (bit_or x y)) y (λ i. let e = bit_at_and y (bit_or x y) i in let f = bit_at_or x y i in omega arith)

word_least : (x y z : ℕ) → bit_and x z ≡ x → bit_and y z ≡ y → bit_and (bit_or x y) z ≡ bit_or x y
word_least x y z e f =
    same_from_bits (bit_and (bit_or x y) z) (bit_or x y) (λ i.
    let a = bit_at_and (bit_or x y) z i in
    let b = bit_at_or x y i in
    let c = sym (bit_at_and x z i) ∙ ap (λ q. bit_at q i) e in
    let d = sym (bit_at_and y z i) ∙ ap (λ q. bit_at q i) f in
    omega arith)

-- one bit, before a step is taken from what is cut or from all
bit_cut : (d l k g m : ℕ) → d < 2 → l < 2 → k < 2 → g < 2 → m < 2 → min (min m k) l ≡ min m k → min (max (min (min d l) k) g) m ≡ min (max (min d k) g) m
bit_cut d l k g m hd hl hk hg hm e =
    elim (cases_eq m 0) [
      | inl z ↦ omega arith
      | inr n ↦ elim (cases_eq k 0) [ inl z ↦ omega arith | inr o ↦ (let a : m ≡ 1 = omega arith in let b : k ≡ 1 = omega arith in let c : l ≡ 1 = omega arith in omega arith) ]
    ]

word_cut : (d l k g m : ℕ) → bit_and (bit_and m k) l ≡ bit_and m k → bit_and (bit_or (bit_and (bit_and d l) k) g) m ≡ bit_and (bit_or (bit_and d k) g) m
word_cut d l k g m e =
    same_from_bits (bit_and (bit_or (bit_and (bit_and d l) k) g) m) (bit_and (bit_or (bit_and d k) g) m) (λ i.
    let h : min (min (bit_at m i) (bit_at k i)) (bit_at l i) ≡ min (bit_at m i) (bit_at k i) = simp (sym (bit_at_and (bit_and m k) l i), sym (bit_at_and m k i)) (ap (λ q. bit_at q i) e) in
    let r = bit_cut (bit_at d i) (bit_at l i) (bit_at k i) (bit_at g i) (bit_at m i) (bit_at-lt d i) (bit_at-lt l i) (bit_at-lt k i) (bit_at-lt g i) (bit_at-lt m i) h in
    simp (bit_at_and, bit_at_or) r)

bit_back : (r d k g : ℕ) → r < 2 → d < 2 → k < 2 → g < 2 → min g k ≡ 0 → min r (max (min d k) g) ≡ r → min (min r k) d ≡ min r k
bit_back r d k g hr hd hk hg e f = elim (cases_eq k 0) [ inl z ↦ omega arith | inr n ↦ (let a : k ≡ 1 = omega arith in let b : g ≡ 0 = omega arith in omega arith) ]

word_back : (r d k g : ℕ) → bit_and g k ≡ 0 → bit_and r (bit_or (bit_and d k) g) ≡ r → bit_and (bit_and r k) d ≡ bit_and r k
word_back r d k g e f =
    same_from_bits (bit_and (bit_and r k) d) (bit_and r k) (λ i.
    let c : min (bit_at r i) (max (min (bit_at d i) (bit_at k i)) (bit_at g i)) ≡ bit_at r i = simp (sym (bit_at_and d k i), sym (bit_at_or (bit_and d k) g i), sym (bit_at_and r (bit_or (bit_and d k) g) i)) (ap (λ q. bit_at q i) f) in
    let h : min (bit_at g i) (bit_at k i) ≡ 0 = sym (bit_at_and g k i) ∙ (ap (λ q. bit_at q i) e ∙ bit_at-zero i) in
    let t = bit_back (bit_at r i) (bit_at d i) (bit_at k i) (bit_at g i) (bit_at-lt r i) (bit_at-lt d i) (bit_at-lt k i) (bit_at-lt g i) h c in
    simp (bit_at_and, bit_at_or) t)

word_reads : (r d l : ℕ) → bit_and r l ≡ r → bit_and r (bit_and d l) ≡ bit_and r d
word_reads r d l e = ap (λ q. bit_and r q) (and_comm d l) ∙ (sym (and_assoc d r l) ∙ ap (λ q. bit_and q d) e)

-- ---- sets

by_words : (x y : Names) → x.a ≡ y.a → x.b ≡ y.b → x.c ≡ y.c → x.d ≡ y.d → x ≡ y
by_words x y a b c d =
    ap (λ q. put q x.b x.c x.d) a ∙ (ap (λ q. put y.a q x.c x.d) b ∙ (ap (λ q. put y.a y.b q x.d) c ∙ ap (λ q. put y.a y.b y.c q) d))
  where
    put : ℕ → ℕ → ℕ → ℕ → Names
    put a b c d = record { a = a; b = b; c = c; d = d }

record Words {x y : Names} (e : x ≡ y) : Type 0 where
  a : x.a ≡ y.a
  b : x.b ≡ y.b
  c : x.c ≡ y.c
  d : x.d ≡ y.d

words_of : {x y : Names} → (e : x ≡ y) → Words e
words_of e = record { a = ap (λ n. n.a) e; b = ap (λ n. n.b) e; c = ap (λ n. n.c) e; d = ap (λ n. n.d) e }

pub within_self : (x : Names) → Within x x
unfolding meet
within_self x = by_words _ _ (and_self x.a) (and_self x.b) (and_self x.c) (and_self x.d)

pub within_trans : (x y z : Names) → Within x y → Within y z → Within x z
unfolding meet
within_trans x y z p q =
    let s = words_of p in
    let t = words_of q in
    by_words _ _ (word_trans x.a y.a z.a s.a t.a) (word_trans x.b y.b z.b s.b t.b) (word_trans x.c y.c z.c s.c t.c) (word_trans x.d y.d z.d s.d t.d)

pub meet_comm : (x y : Names) → meet x y ≡ meet y x
unfolding meet
meet_comm x y = by_words _ _ (and_comm x.a y.a) (and_comm x.b y.b) (and_comm x.c y.c) (and_comm x.d y.d)

pub within_first : (x y : Names) → Within x (join x y)
unfolding meet join
within_first x y = by_words _ _ (word_first x.a y.a) (word_first x.b y.b) (word_first x.c y.c) (word_first x.d y.d)

pub within_second : (x y : Names) → Within y (join x y)
unfolding meet join
within_second x y = by_words _ _ (word_second x.a y.a) (word_second x.b y.b) (word_second x.c y.c) (word_second x.d y.d)

pub join_within : (x y z : Names) → Within x z → Within y z → Within (join x y) z
unfolding meet join
join_within x y z p q =
    let s = words_of p in
    let t = words_of q in
    by_words _ _ (word_least x.a y.a z.a s.a t.a) (word_least x.b y.b z.b s.b t.b) (word_least x.c y.c z.c s.c t.c) (word_least x.d y.d z.d s.d t.d)

-- what is cut away before a step is not missed behind it
pub step_from_cut : (d l k g m : Names) → Within (meet m k) l → meet (join (meet (meet d l) k) g) m ≡ meet (join (meet d k) g) m
unfolding meet join
step_from_cut d l k g m p =
    let s = words_of p in
    by_words _ _ (word_cut d.a l.a k.a g.a m.a s.a) (word_cut d.b l.b k.b g.b m.b s.b) (word_cut d.c l.c k.c g.c m.c s.c) (word_cut d.d l.d k.d g.d m.d s.d)

-- what a step does not add was there before it
pub there_before : (r d k g : Names) → meet g k ≡ no_names → Within r (join (meet d k) g) → Within (meet r k) d
unfolding meet join
there_before r d k g e f =
    let s = words_of e in
    let t = words_of f in
    by_words _ _ (word_back r.a d.a k.a g.a s.a t.a) (word_back r.b d.b k.b g.b s.b t.b) (word_back r.c d.c k.c g.c s.c t.c) (word_back r.d d.d k.d g.d s.d t.d)

pub reads_from_cut : (r d l : Names) → Within r l → meet r (meet d l) ≡ meet r d
unfolding meet
reads_from_cut r d l p =
    let s = words_of p in
    by_words _ _ (word_reads r.a d.a l.a s.a) (word_reads r.b d.b l.b s.b) (word_reads r.c d.c l.c s.c) (word_reads r.d d.d l.d s.d)

pub none_within : (x : Names) → Within no_names x
unfolding meet
none_within x = by_words _ _ refl refl refl refl

pub meet_none : (x : Names) → meet no_names x ≡ no_names
meet_none x = none_within x

pub same_is : (x y : Names) → same x y ≡ true → x ≡ y
unfolding same
same_is x y t =
    let abc = both (nat_eq x.a y.a && nat_eq x.b y.b && nat_eq x.c y.c) (nat_eq x.d y.d) t in
    let ab = both (nat_eq x.a y.a && nat_eq x.b y.b) (nat_eq x.c y.c) abc.0 in
    let a = both (nat_eq x.a y.a) (nat_eq x.b y.b) ab.0 in
    by_words x y (equal _ _ a.0) (equal _ _ a.1) (equal _ _ ab.1) (equal _ _ abc.1)
  where
    both : (p q : Bool) → (p && q) ≡ true → (p ≡ true) × (q ≡ true)
    both true q h = (refl, h)
    both false q h = absurd cc

    equal : (m n : ℕ) → nat_eq m n ≡ true → m ≡ n
    equal m n t = grind (arith, nat_tests)

pub same_self : (x : Names) → same x x ≡ true
unfolding same
same_self x = grind (arith, nat_tests)

-- more names leave less to spare
pub spare_within : (x y : Names) → Within x y → spare_names y ≤ spare_names x
unfolding meet
spare_within x y w =
    let s = words_of w in
    let a = low x.a y.a s.a in
    let b = low x.b y.b s.b in
    let c = low x.c y.c s.c in
    let d = low x.d y.d s.d in
    omega arith
  where
    low : (m n : ℕ) → bit_and m n ≡ m → m ≤ n
    low m n e = let h = and_le_r m n in omega arith

-- and where nothing is spared, nothing is more
pub spare_same : (x y : Names) → AreNames y → Within x y → spare_names x ≤ spare_names y → y ≡ x
unfolding meet
spare_same x y r w e =
    let s = words_of w in
    let a = low x.a y.a s.a in
    let b = low x.b y.b s.b in
    let c = low x.c y.c s.c in
    let d = low x.d y.d s.d in
    let ra = r.a in
    let rb = r.b in
    let rc = r.c in
    let rd = r.d in
    by_words y x (omega arith) (omega arith) (omega arith) (omega arith)
  where
    low : (m n : ℕ) → bit_and m n ≡ m → m ≤ n
    low m n e = let h = and_le_r m n in omega arith
