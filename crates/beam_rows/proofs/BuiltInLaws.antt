-- Each built-in gives terms of terms.
use Rattle.std.proofs.Common.{◌≡◌, ℕ, zero, suc, ◌+◌, ◌≤◌, ℤ, pos, negsuc, Bool, true, false, Some, List, [], ◌∷◌, length, slice_get, nat_lt, ◌*ℤ◌, ◌+ℤ◌, ◌-ℤ◌, neg_ℤ, ◌^◌, ◌&&◌, ◌||◌, reverse, if◌then◌else◌, eqb-true, refl, ap, subst, sym, ◌∙◌, arith}
use Rattle.std.specs.Prelude.{int_div, int_rem}
use Rattle.beam_code.specs.declared.call.RaiseClass.{RaiseClass}
use Rattle.beam_code.specs.Answer as a
use Rattle.beam_code.specs.BuiltIns.{Gives, Fails, BuiltIn, Failure, NoFailure, Badarith, Badarg, First, answer_of, answered, failed, built_ins, builtin, elements_at, words_made, same, absolute}
use Rattle.beam_rows.specs.Terms.{BuiltInsGiveTerms, BuiltInsMakeTheirWords, BuiltInsFailByTheirRows, IsFailure, tuple_made}
use Rattle.beam_rows.proofs.Terms.{AreAll, IsFine, exact-fine, says-fine, of_two-fine, of_one-fine, of_truths-fine, of_truth-fine, found-fine, set_at-fine, made_of-fine, conses-term, reversed, listed, member_of-fine, either-term, counted, size-trees_of}
use Rattle.term_tree.specs.IsTerm.{IsTerm, most_elements}
use Rattle.term_tree.specs.Size.{size_of}
use Rattle.term_tree.specs.Tree.{Tree, Int, Nil, Cons, Tuple, conses, list_of}

-- of terms, and where a header can say the size of a tuple that is made, it gives a term
abbrev GivesTerms : BuiltIn → Type 0
GivesTerms b = (vs : List Tree) → AreAll vs → tuple_made b.making vs ≤ most_elements → IsFine (b.value vs)

-- a choice of two values
chosen : (b : Bool) (u v : a.Value) → IsFine u → IsFine v → IsFine (if b then u else v)
chosen true u v h g = h
chosen false u v h g = g

divide-fine : (x y : ℤ) → IsFine (a.divide x y)
divide-fine x y = chosen (a.is_zero y) a.Fails (a.exact (int_div x y)) tt (exact-fine (int_div x y))

remainder-fine : (x y : ℤ) → IsFine (a.remainder x y)
remainder-fine x y = chosen (a.is_zero y) a.Fails (a.exact (int_rem x y)) tt (exact-fine (int_rem x y))

-- 0 is moved as it is, and is small
zero_is : (i : ℤ) → a.is_zero i ≡ true → IsTerm (Int i)
zero_is (pos n) h = let none = eqb-true n 0 h in omega (arith, none)
zero_is (negsuc n) h = absurd cc

left_wide : (b : Bool) (v : a.Value) → IsFine v → IsFine (elim b [ true ↦ v | false ↦ a.TooWide ])
left_wide true v h = h
left_wide false v h = tt

left_at : (n : ℕ) (i : ℤ) (b : Bool) → a.is_zero i ≡ b → IsFine (if b then a.Is (Int i) else elim (nat_lt n 28) [ true ↦ a.exact (i *ℤ pos (2 ^ n)) | false ↦ a.TooWide ])
left_at n i true h = zero_is i h
left_at n i false h = left_wide (nat_lt n 28) (a.exact (i *ℤ pos (2 ^ n))) (exact-fine (i *ℤ pos (2 ^ n)))

left-fine : (n : ℕ) (i : ℤ) → IsFine (a.left_by n i)
left-fine n i = left_at n i (a.is_zero i) refl

right-fine : (n : ℕ) (i : ℤ) → IsFine (a.right_by n i)
right-fine n (pos m) = exact-fine (pos (a.halved n m))
right-fine n (negsuc m) = exact-fine (negsuc (a.halved n m))

shift_left-fine : (x y : ℤ) → IsFine (a.shift_left x y)
shift_left-fine x (pos n) = left-fine n x
shift_left-fine x (negsuc n) = right-fine (n + 1) x

shift_right-fine : (x y : ℤ) → IsFine (a.shift_right x y)
shift_right-fine x (pos n) = right-fine n x
shift_right-fine x (negsuc n) = left-fine (n + 1) x

-- parts of terms, and terms that are made

head-fine : (vs : List Tree) → AreAll vs → IsFine (a.head vs)
head-fine (Cons x y ∷ []) h = h.0.0
head-fine _ h = tt

tail-fine : (vs : List Tree) → AreAll vs → IsFine (a.tail vs)
tail-fine (Cons x y ∷ []) h = h.0.1
tail-fine _ h = tt

element-fine : (vs : List Tree) → AreAll vs → IsFine (a.element vs)
element-fine (Int (pos (suc n)) ∷ Tuple ts ∷ []) h = found-fine ts n h.1.0.1
element-fine _ h = tt

set_element-fine : (vs : List Tree) → AreAll vs → IsFine (a.set_element vs)
set_element-fine (Int (pos (suc n)) ∷ Tuple ts ∷ v ∷ []) h = set_at-fine ts n v h.1.0.1 h.1.1.0 h.1.0.0
set_element-fine _ h = tt

tuple_size-fine : (vs : List Tree) → IsFine (a.tuple_size vs)
tuple_size-fine (Tuple ts ∷ []) = exact-fine (pos (size_of ts))
tuple_size-fine _ = tt

length-fine : (vs : List Tree) → AreAll vs → IsFine (a.of_list a.list_length vs)
length-fine (v ∷ []) h = made_of-fine a.list_length v h.0 (λ us e g. exact-fine (pos (length us)))
length-fine _ h = tt

to_tuple-fine : (vs : List Tree) → AreAll vs → elements_at (slice_get vs 0) ≤ most_elements → IsFine (a.of_list a.to_tuple vs)
to_tuple-fine (v ∷ []) h few =
    made_of-fine a.to_tuple v h.0 (λ us e g. (rw (size-trees_of us, counted v us e) few, g))
to_tuple-fine _ h few = tt

to_list-fine : (vs : List Tree) → AreAll vs → IsFine (a.to_list vs)
to_list-fine (Tuple ts ∷ []) h = conses-term (list_of ts) Nil (listed ts h.0.1) tt
to_list-fine _ h = tt

in_front-fine : (f : List Tree → List Tree) → ((us : List Tree) → AreAll us → AreAll (f us)) → (vs : List Tree) → AreAll vs → IsFine (a.in_front f vs)
in_front-fine f keeps (v ∷ end ∷ []) h = made_of-fine (λ us. a.Is (conses (f us) end)) v h.0 (λ us e g. conses-term (f us) end (keeps us g) h.1.0)
in_front-fine f keeps _ h = tt

member-fine : (vs : List Tree) → IsFine (a.member vs)
member-fine (v ∷ list ∷ []) = member_of-fine v list
member-fine _ = tt

least-fine : (vs : List Tree) → AreAll vs → IsFine (a.least vs)
least-fine (x ∷ y ∷ []) h = either-term (a.less y x) y x h.1.0 h.0
least-fine _ h = tt

greatest-fine : (vs : List Tree) → AreAll vs → IsFine (a.greatest vs)
greatest-fine (x ∷ y ∷ []) h = either-term (a.less x y) y x h.1.0 h.0
greatest-fine _ h = tt

-- each row of the table

abbrev Each : (BuiltIn → Type 0) → List BuiltIn → Type 0
Each P [] = Unit {0}
Each P (b ∷ bs) = P b × Each P bs

row_in : (P : BuiltIn → Type 0) (bs : List BuiltIn) (k : ℕ) (b : BuiltIn) → slice_get bs k ≡ Some b → Each P bs → P b
row_in P [] k b e all = absurd cc
row_in P (c ∷ bs) zero b e all = let same : c ≡ b = cc in subst P same all.0
row_in P (c ∷ bs) (suc k) b e all = row_in P bs k b e all.1

all_give : Each GivesTerms built_ins
all_give = (
  λ vs h few. of_two-fine a.add (λ x y. exact-fine (x +ℤ y)) vs,
  (
    λ vs h few. of_two-fine a.subtract (λ x y. exact-fine (x -ℤ y)) vs,
    (
      λ vs h few. of_two-fine a.multiply (λ x y. exact-fine (x *ℤ y)) vs,
      (
        λ vs h few. of_two-fine a.divide divide-fine vs,
        (
          λ vs h few. of_two-fine a.remainder remainder-fine vs,
          (
            λ vs h few. of_two-fine (λ x y. a.exact (a.bits_and x y)) (λ x y. exact-fine (a.bits_and x y)) vs,
            (
              λ vs h few. of_two-fine (λ x y. a.exact (a.bits_or x y)) (λ x y. exact-fine (a.bits_or x y)) vs,
              (
                λ vs h few. of_two-fine (λ x y. a.exact (a.bits_xor x y)) (λ x y. exact-fine (a.bits_xor x y)) vs,
                (
                  λ vs h few. of_two-fine a.shift_left shift_left-fine vs,
                  (
                    λ vs h few. of_two-fine a.shift_right shift_right-fine vs,
                    (
                      λ vs h few. of_one-fine a.bits_not vs,
                      (
                        λ vs h few. of_one-fine neg_ℤ vs,
                        (
                          λ vs h few. of_one-fine same vs,
                          (
                            λ vs h few. of_one-fine absolute vs,
                            (
                              λ vs h few. says-fine (a.two_terms a.equal vs),
                              (
                                λ vs h few. says-fine (a.two_terms a.unequal vs),
                                (
                                  λ vs h few. says-fine (a.two_terms a.equal vs),
                                  (
                                    λ vs h few. says-fine (a.two_terms a.unequal vs),
                                    (
                                      λ vs h few. says-fine (a.two_terms a.less vs),
                                      (
                                        λ vs h few. says-fine (a.two_terms a.greater vs),
                                        (
                                          λ vs h few. says-fine (a.two_terms a.not_greater vs),
                                          (
                                            λ vs h few. says-fine (a.two_terms a.not_less vs),
                                            (
                                              λ vs h few. of_truths-fine (λ x y. x && y) vs,
                                              (
                                                λ vs h few. of_truths-fine (λ x y. x || y) vs,
                                                (
                                                  λ vs h few. of_truths-fine a.differ vs,
                                                  (
                                                    λ vs h few. of_truth-fine vs,
                                                    (
                                                      λ vs h few. says-fine (a.is_integer vs),
                                                      (
                                                        λ vs h few. says-fine (a.is_atom vs),
                                                        (
                                                          λ vs h few. says-fine (a.is_list vs),
                                                          (
                                                            λ vs h few. says-fine (a.is_tuple vs),
                                                            (
                                                              λ vs h few. says-fine (a.is_boolean vs),
                                                              (
                                                                λ vs h few. says-fine (a.is_integer vs),
                                                                (
                                                                  λ vs h few. head-fine vs h,
                                                                  (
                                                                    λ vs h few. tail-fine vs h,
                                                                    (
                                                                      λ vs h few. element-fine vs h,
                                                                      (
                                                                        λ vs h few. tuple_size-fine vs,
                                                                        (
                                                                          λ vs h few. length-fine vs h,
                                                                          (
                                                                            λ vs h few. least-fine vs h,
                                                                            (
                                                                              λ vs h few. greatest-fine vs h,
                                                                              (
                                                                                λ vs h few. set_element-fine vs h,
                                                                                (
                                                                                  λ vs h few. in_front-fine (λ us. us) (λ us g. g) vs h,
                                                                                  (
                                                                                    λ vs h few. to_tuple-fine vs h few,
                                                                                    (
                                                                                      λ vs h few. to_list-fine vs h,
                                                                                      (
                                                                                        λ vs h few. in_front-fine reverse reversed vs h,
                                                                                        (
                                                                                          λ vs h few. member-fine vs,
                                                                                          (
                                                                                            λ vs h few. tt,
                                                                                            (
                                                                                              λ vs h few. tt,
                                                                                              (
                                                                                                λ vs h few. tt,
                                                                                                (
                                                                                                  λ vs h few. tt,
                                                                                                  (
                                                                                                    λ vs h few. says-fine false,
                                                                                                    (
                                                                                                      λ vs h few. says-fine false,
                                                                                                      (
                                                                                                        λ vs h few. says-fine false,
                                                                                                        (
                                                                                                          λ vs h few. says-fine false,
                                                                                                          (
                                                                                                            λ vs h few. says-fine false,
                                                                                                            (
                                                                                                              λ vs h few. says-fine false,
                                                                                                              (
                                                                                                                λ vs h few. says-fine false,
                                                                                                                (
                                                                                                                  λ vs h few. says-fine false,
                                                                                                                  tt,
                                                                                                                ),
                                                                                                              ),
                                                                                                            ),
                                                                                                          ),
                                                                                                        ),
                                                                                                      ),
                                                                                                    ),
                                                                                                  ),
                                                                                                ),
                                                                                              ),
                                                                                            ),
                                                                                          ),
                                                                                        ),
                                                                                      ),
                                                                                    ),
                                                                                  ),
                                                                                ),
                                                                              ),
                                                                            ),
                                                                          ),
                                                                        ),
                                                                      ),
                                                                    ),
                                                                  ),
                                                                ),
                                                              ),
                                                            ),
                                                          ),
                                                        ),
                                                      ),
                                                    ),
                                                  ),
                                                ),
                                              ),
                                            ),
                                          ),
                                        ),
                                      ),
                                    ),
                                  ),
                                ),
                              ),
                            ),
                          ),
                        ),
                      ),
                    ),
                  ),
                ),
              ),
            ),
          ),
        ),
      ),
    ),
  ),
)

-- the answer of a row

failing : (f : Failure) (vs : List Tree) (v : Tree) (words : ℕ) → failed f vs ≡ Gives v words → ⊥
failing NoFailure vs v words e = cc
failing Badarith vs v words e = cc
failing Badarg vs v words e = cc
failing (First class) vs v words e = cc

row_answers : (k : ℕ) (b : BuiltIn) (vs : List Tree) → slice_get built_ins k ≡ Some b → builtin k vs ≡ answered b vs (b.value vs)
row_answers k b vs is = ap (λ o. answer_of o vs) is

term_of : (b : BuiltIn) (vs : List Tree) (u : a.Value) (v : Tree) (words : ℕ) → answered b vs u ≡ Gives v words → IsFine u → IsTerm v
term_of b vs (a.Is u) v words e fine = let same : u ≡ v = cc in subst IsTerm same fine
term_of b vs a.Fails v words e fine = absurd (failing b.failure vs v words e)
term_of b vs a.TooWide v words e fine = absurd cc

pub built_ins_give_terms : BuiltInsGiveTerms
built_ins_give_terms k b vs v words is terms few e =
    term_of b vs (b.value vs) v words (sym (row_answers k b vs is) ∙ e) (row_in GivesTerms built_ins k b is all_give vs terms few)

words_by : (b : BuiltIn) (vs : List Tree) (u : a.Value) (v : Tree) (words : ℕ) → answered b vs u ≡ Gives v words → words ≡ words_made b.making vs
words_by b vs (a.Is u) v words e = cc
words_by b vs a.Fails v words e = absurd (failing b.failure vs v words e)
words_by b vs a.TooWide v words e = absurd cc

pub built_ins_make_their_words : BuiltInsMakeTheirWords
built_ins_make_their_words k b vs v words is e = words_by b vs (b.value vs) v words (sym (row_answers k b vs is) ∙ e)

-- failures

abbrev MayFail : Failure → Type 0
MayFail NoFailure = ⊥
MayFail Badarith = Unit {0}
MayFail Badarg = Unit {0}
MayFail (First class) = Unit {0}

abbrev FailsWell : BuiltIn → Type 0
FailsWell b = (vs : List Tree) → length vs ≡ b.arity → b.value vs ≡ a.Fails → MayFail b.failure

-- two terms have a least and a greatest one
two_given : (f : List Tree → a.Value) → ((x y : Tree) → f (x ∷ y ∷ []) ≡ a.Fails → ⊥) → (vs : List Tree) → length vs ≡ 2 → f vs ≡ a.Fails → ⊥
two_given f gives [] n e = absurd (omega (arith, n))
two_given f gives (x ∷ []) n e = absurd (omega (arith, n))
two_given f gives (x ∷ y ∷ []) n e = gives x y e
two_given f gives (x ∷ y ∷ z ∷ vs) n e = absurd (omega (arith, n))

least-gives : (vs : List Tree) → length vs ≡ 2 → a.least vs ≡ a.Fails → ⊥
least-gives vs n e = two_given a.least (λ x y h. cc) vs n e

greatest-gives : (vs : List Tree) → length vs ≡ 2 → a.greatest vs ≡ a.Fails → ⊥
greatest-gives vs n e = two_given a.greatest (λ x y h. cc) vs n e

all_fail : Each FailsWell built_ins
all_fail = (
  λ vs n e. tt,
  (
    λ vs n e. tt,
    (
      λ vs n e. tt,
      (
        λ vs n e. tt,
        (
          λ vs n e. tt,
          (
            λ vs n e. tt,
            (
              λ vs n e. tt,
              (
                λ vs n e. tt,
                (
                  λ vs n e. tt,
                  (
                    λ vs n e. tt,
                    (
                      λ vs n e. tt,
                      (
                        λ vs n e. tt,
                        (
                          λ vs n e. tt,
                          (
                            λ vs n e. tt,
                            (
                              λ vs n e. cc,
                              (
                                λ vs n e. cc,
                                (
                                  λ vs n e. cc,
                                  (
                                    λ vs n e. cc,
                                    (
                                      λ vs n e. cc,
                                      (
                                        λ vs n e. cc,
                                        (
                                          λ vs n e. cc,
                                          (
                                            λ vs n e. cc,
                                            (
                                              λ vs n e. tt,
                                              (
                                                λ vs n e. tt,
                                                (
                                                  λ vs n e. tt,
                                                  (
                                                    λ vs n e. tt,
                                                    (
                                                      λ vs n e. cc,
                                                      (
                                                        λ vs n e. cc,
                                                        (
                                                          λ vs n e. cc,
                                                          (
                                                            λ vs n e. cc,
                                                            (
                                                              λ vs n e. cc,
                                                              (
                                                                λ vs n e. cc,
                                                                (
                                                                  λ vs n e. tt,
                                                                  (
                                                                    λ vs n e. tt,
                                                                    (
                                                                      λ vs n e. tt,
                                                                      (
                                                                        λ vs n e. tt,
                                                                        (
                                                                          λ vs n e. tt,
                                                                          (
                                                                            λ vs n e. least-gives vs n e,
                                                                            (
                                                                              λ vs n e. greatest-gives vs n e,
                                                                              (
                                                                                λ vs n e. tt,
                                                                                (
                                                                                  λ vs n e. tt,
                                                                                  (
                                                                                    λ vs n e. tt,
                                                                                    (
                                                                                      λ vs n e. tt,
                                                                                      (
                                                                                        λ vs n e. tt,
                                                                                        (
                                                                                          λ vs n e. tt,
                                                                                          (
                                                                                            λ vs n e. tt,
                                                                                            (
                                                                                              λ vs n e. tt,
                                                                                              (
                                                                                                λ vs n e. tt,
                                                                                                (
                                                                                                  λ vs n e. tt,
                                                                                                  (
                                                                                                    λ vs n e. cc,
                                                                                                    (
                                                                                                      λ vs n e. cc,
                                                                                                      (
                                                                                                        λ vs n e. cc,
                                                                                                        (
                                                                                                          λ vs n e. cc,
                                                                                                          (
                                                                                                            λ vs n e. cc,
                                                                                                            (
                                                                                                              λ vs n e. cc,
                                                                                                              (
                                                                                                                λ vs n e. cc,
                                                                                                                (
                                                                                                                  λ vs n e. cc,
                                                                                                                  tt,
                                                                                                                ),
                                                                                                              ),
                                                                                                            ),
                                                                                                          ),
                                                                                                        ),
                                                                                                      ),
                                                                                                    ),
                                                                                                  ),
                                                                                                ),
                                                                                              ),
                                                                                            ),
                                                                                          ),
                                                                                        ),
                                                                                      ),
                                                                                    ),
                                                                                  ),
                                                                                ),
                                                                              ),
                                                                            ),
                                                                          ),
                                                                        ),
                                                                      ),
                                                                    ),
                                                                  ),
                                                                ),
                                                              ),
                                                            ),
                                                          ),
                                                        ),
                                                      ),
                                                    ),
                                                  ),
                                                ),
                                              ),
                                            ),
                                          ),
                                        ),
                                      ),
                                    ),
                                  ),
                                ),
                              ),
                            ),
                          ),
                        ),
                      ),
                    ),
                  ),
                ),
              ),
            ),
          ),
        ),
      ),
    ),
  ),
)

by_failure : (f : Failure) (vs : List Tree) (class : RaiseClass) (reason : Tree) → MayFail f → failed f vs ≡ Fails class reason → IsFailure f vs class reason
by_failure NoFailure vs class reason may e = absurd may
by_failure Badarith vs class reason may e = (cc, cc)
by_failure Badarg vs class reason may e = (cc, cc)
by_failure (First c) vs class reason may e = (cc, cc)

fails_by : (b : BuiltIn) (vs : List Tree) (u : a.Value) (class : RaiseClass) (reason : Tree) → (u ≡ a.Fails → MayFail b.failure) → answered b vs u ≡ Fails class reason → IsFailure b.failure vs class reason
fails_by b vs (a.Is v) class reason may e = absurd cc
fails_by b vs a.Fails class reason may e = by_failure b.failure vs class reason (may refl) e
fails_by b vs a.TooWide class reason may e = absurd cc

pub built_ins_fail_by_their_rows : BuiltInsFailByTheirRows
built_ins_fail_by_their_rows k b vs class reason is n e =
    fails_by b vs (b.value vs) class reason (row_in FailsWell built_ins k b is all_fail vs n) (sym (row_answers k b vs is) ∙ e)
