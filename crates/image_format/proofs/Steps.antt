-- Steps of a reader that did not fail.
use Rattle.std.proofs.Common.{◌≡◌, ℕ, ◌≤◌, ltb, eqb, Bool, true, false, cond, Option, Some, None, Result, Ok, Err, refl}
use Rattle.std.specs.Prelude.{◌&&◌, not}
use Rattle.std.proofs.lemmas.Bool.{ltb-false, le-ltb, eqb-true, eq-eqb}
use Rattle.image_format.specs.declared.refusal.Flaw.{Flaw}
use Rattle.image_format.specs.Cursor.{Cursor, FieldFault, ◌>>=◌, kept}
use Rattle.image_format.specs.Rules.{passes, or_then, at_most, at_least, within, exactly}

-- the value of a step that did not fail
pub bind_ok : {A B : Type 0} (r : Result A FieldFault) (f : A → Result B FieldFault) (y : B) → (r >>= f) ≡ Ok y → (x : A) × (r ≡ Ok x) × (f x ≡ Ok y)
bind_ok (Ok x) f y e = (x, refl, e)
bind_ok (Err d) f y e = absurd cc

-- what keeps a rule
pub kept_ok : {A : Type 0} (o : Option Flaw) (p : Cursor) (x y : A) → kept o p x ≡ Ok y → (o ≡ None) × (x ≡ y)
kept_ok None p x y e = (refl, cc)
kept_ok (Some flaw) p x y e = absurd cc

pub test_ok : {A : Type 0} (b : Bool) (d : FieldFault) (x y : A) → cond b (Ok x) (Err d) ≡ Ok y → (b ≡ true) × (x ≡ y)
test_ok true d x y e = (refl, cc)
test_ok false d x y e = absurd cc

abbrev done : {A : Type 0} → A → Result A FieldFault
done x = Ok x

pub ok_is : {A : Type 0} (x y : A) → done x ≡ done y → x ≡ y
ok_is x y e = cc

pub both_true : (a b : Bool) → (a && b) ≡ true → (a ≡ true) × (b ≡ true)
both_true true b e = (refl, e)
both_true false b e = absurd cc

pub not_false : (b : Bool) → not b ≡ true → b ≡ false
not_false true e = absurd cc
not_false false e = refl

-- the value of a step that did not fail, for what follows from it
pub bind_case : {A B G E : Type 0} (r : Result A E) (f : A → Result B E) (y : B) → (r >>= f) ≡ Ok y → ((x : A) → r ≡ Ok x → f x ≡ Ok y → G) → G
bind_case (Ok x) f y e go = go x refl e
bind_case (Err d) f y e go = absurd cc

pub short_or_wrong : {A : Type 0} (a b : Bool) (c d : FieldFault) (x y : A) → cond a (Err c) (cond b (Ok x) (Err d)) ≡ Ok y → (a ≡ false) × (b ≡ true) × (x ≡ y)
short_or_wrong true b c d x y e = absurd cc
short_or_wrong false true c d x y e = (refl, refl, cc)
short_or_wrong false false c d x y e = absurd cc

-- ---- rules of numbers

pub no_flaw : (b : Bool) (d : Flaw) → cond b (Some d) None ≡ None → b ≡ false
no_flaw true d e = absurd cc
no_flaw false d e = refl

pub passed : (b : Bool) (d : Flaw) → passes d b ≡ None → b ≡ true
passed true d e = refl
passed false d e = absurd cc

pub neither : (a b : Option Flaw) → or_then a b ≡ None → (a ≡ None) × (b ≡ None)
neither None b e = (refl, e)
neither (Some d) b e = absurd cc

pub most_is : (d : Flaw) (most n : ℕ) → at_most d most n ≡ None → n ≤ most
most_is d most n e = ltb-false _ _ (no_flaw (ltb most n) d e)

pub is_most : (d : Flaw) (most n : ℕ) → n ≤ most → at_most d most n ≡ None
is_most d most n h = rw (le-ltb most n h) refl

pub least_is : (d : Flaw) (least n : ℕ) → at_least d least n ≡ None → least ≤ n
least_is d least n e = ltb-false _ _ (no_flaw (ltb n least) d e)

pub is_least : (d : Flaw) (least n : ℕ) → least ≤ n → at_least d least n ≡ None
is_least d least n h = rw (le-ltb n least h) refl

pub value_is : (d : Flaw) (value n : ℕ) → exactly d value n ≡ None → n ≡ value
value_is d value n e = eqb-true _ _ (passed (eqb n value) d e)

pub is_value : (d : Flaw) (value n : ℕ) → n ≡ value → exactly d value n ≡ None
is_value d value n h = rw (eq-eqb n value h) refl

pub within_is : (d : Flaw) (least most n : ℕ) → within d least most n ≡ None → (least ≤ n) × (n ≤ most)
within_is d least most n e = let t = neither (at_least d least n) (at_most d most n) e in (least_is d least n t.0, most_is d most n t.1)

pub is_within : (d : Flaw) (least most n : ℕ) → least ≤ n → n ≤ most → within d least most n ≡ None
is_within d least most n a b = rw (is_least d least n a, is_most d most n b) refl
