-- A refusal is of a field that breaks its rule, behind fields that keep theirs; and there is one such field at most.
use Rattle.std.proofs.Common.{◌≡◌, ℕ, zero, suc, ◌+◌, ◌<◌, ◌≤◌, Bool, true, false, cond, ltb, List, [], ◌∷◌, ◌++◌, length, take, drop, Option, Some, None, Result, Ok, Err, refl, sym, ap, subst, ◌∙◌, append_assoc, arith, inl, inr}
use Rattle.std.specs.Prelude.{◌==◌, ◌↔◌}
use Rattle.std.specs.List.{list_all, concat, fold}
use Rattle.std.specs.Int.{w32, from_be_bytes}
use Rattle.std.proofs.lemmas.Bool.{ltb-false, ltb-true, eqb-true}
use Rattle.std.proofs.lemmas.List.{take_at, drop_at, take-append-drop, length-append, length-take, nil_from_length}
use Rattle.beam_code.specs.declared.module.TheConstants.{MOST_TEXT_BYTES}
use Rattle.image_format.specs.declared.limits.TheConstants.{MAGIC, VERSION, MOST_ATOMS, MOST_LITERALS, MOST_NATIVES, MOST_DESCRIPTORS, MOST_MODULES, MOST_FRAME}
use Rattle.image_format.specs.declared.parts.Parts.{Parts}
use Rattle.image_format.specs.declared.parts.Native.{Native}
use Rattle.image_format.specs.declared.parts.Descriptor.{Descriptor}
use Rattle.image_format.specs.declared.refusal.Flaw.{Flaw}
use Rattle.image_format.specs.declared.refusal.Flaw.TheVariants.{Magic, Version, Short, Count, Value, Order, Long}
use Rattle.image_format.specs.Cursor.{Cursor, FieldFault, fault, Read, ◌>>=◌, kept, start, many_at}
use Rattle.image_format.specs.Places.{Place, Field, AtMagic, AtVersion, AtModules, AtTextLength, AtText, AtAtoms, AtAtomLength, AtAtom, AtLiterals, AtRoots, AtNatives, AtNative, AtFirst, AtWords, AtCode, AtDescriptors, AtRet, AtFid, AtItem, AtFrame, AtKind, AtHandler, AtMask, AtEnd, Bytes, End, row, word, text, number, texts, atoms, literals, roots, natives, code, descriptors, masks, Keeps, next_of, after, after_all, AreFields, Breaks, IsRefused}
use Rattle.image_format.specs.Reading.{word_at, number_at, bytes_at, text_at, atom_at, each_word, no_more, native_at, kind_at, mask_at, after_mask, masks_at, live_at, descriptor_at, list_at, texts_at, atoms_at, word_list_at, natives_at, descriptors_at, parts_at, end_at, reading}
use Rattle.image_format.specs.Rules.{any, exactly, at_most, at_least, within, code_count, kind_numbered, handler_of, new_name, mask_word}
use Rattle.image_format.specs.Spelling.{padding}
use Rattle.tagged_words.specs.Atoms.{and_atom}
use Rattle.image_format.specs.Fitting.{Turn, turn, first_turn, after_native, after_text, after_descriptor, total_count}
use Rattle.image_format.specs.Mask.{mask_words, live_slots}
use Rattle.image_format.proofs.Steps.{bind_case}
use Rattle.image_format.proofs.Kept.{natives_place}

-- ---- fields from a place on, up to a fault or to the end

-- what comes behind the fields: a field with a fault at this offset, or the end and no more bytes
abbrev pub Outcome : Field → List ℕ → ℕ → Option FieldFault → Type 0
Outcome f rest at None = (f ≡ End) × (rest ≡ [])
Outcome f rest at (Some e) = (e.offset ≡ at) × Breaks f e.flaw rest

pub record Ends (place : Place) (p : Cursor) (o : Option FieldFault) : Type 0 where
  pub fields : List (List ℕ)
  pub rest : List ℕ
  pub parts : p.rest ≡ concat fields ++ rest
  pub keep : AreFields place fields
  pub outcome : Outcome (row (after_all place fields)) rest (p.at + length (concat fields)) o

-- nothing is kept before
now : (place : Place) (p : Cursor) (o : Option FieldFault) → Outcome (row place) p.rest p.at o → Ends place p o
now place p o h = record { fields = []; rest = p.rest; parts = refl; keep = tt; outcome = subst (λ n. Outcome (row place) p.rest n o) (omega arith) h }

-- one field is kept before
then_ends : (place : Place) (p q : Cursor) (bytes : List ℕ) (o : Option FieldFault) → Keeps (row place) bytes → p.rest ≡ bytes ++ q.rest → q.at ≡ p.at + length bytes → Ends (after place bytes) q o → Ends place p o
then_ends place p q bytes o k e at h = record {
  fields = bytes ∷ h.fields;
  rest = h.rest;
  parts = e ∙ ap (λ (l : List ℕ). bytes ++ l) h.parts ∙ sym (append_assoc bytes (concat h.fields) h.rest);
  keep = (k, h.keep);
  outcome = subst (λ n. Outcome (row (after_all (after place bytes) h.fields)) h.rest n o) (omega (arith, at, length-append bytes (concat h.fields))) h.outcome;
}

-- ---- what a reader tells of the fields that it reads

-- where it reads a value, what follows in the place behind that follows here; where it fails, it does so at a field
abbrev pub Tells : {A : Type 0} → Place → (A → Place) → Cursor → Read A → Type 0
Tells place to p (Ok x) = (o : Option FieldFault) → Ends (to x.0) x.1 o → Ends place p o
Tells place to p (Err e) = Ends place p (Some e)

tells_before : {B : Type 0} (place mid : Place) (last : B → Place) (p q : Cursor) (r : Read B) → ((o : Option FieldFault) → Ends mid q o → Ends place p o) → Tells mid last q r → Tells place last p r
tells_before place mid last p q (Ok y) go t = λ o h. go o (t o h)
tells_before place mid last p q (Err e) go t = go (Some e) t

pub tells_then : {A B : Type 0} (place : Place) (to : A → Place) (last : B → Place) (p : Cursor) (r : Read A) (f : A × Cursor → Read B)
    → Tells place to p r → ((x : A × Cursor) → r ≡ Ok x → Tells (to x.0) last x.1 (f x)) → Tells place last p (r >>= f)
tells_then place to last p (Ok x) f a b = tells_before place (to x.0) last p x.1 (f x) a (b x refl)
tells_then place to last p (Err e) f a b = a

-- a field that is there whole
whole_tells : (place : Place) (size : ℕ) (flaw : List ℕ → Option Flaw) (next : List ℕ → Place) {A : Type 0} (to : A → Place) (p : Cursor) (x : A) (o : Option Flaw) → row place ≡ Bytes size flaw next → size ≤ length p.rest
    → flaw (take size p.rest) ≡ o → to x ≡ next (take size p.rest) → Tells place to p (kept o p (x, record { rest = drop size p.rest; at = p.at + size }))
whole_tells place size flaw next to p x None is long fine same =
    let bytes = take size p.rest in
    let q : Cursor = record { rest = drop size p.rest; at = p.at + size } in
    let len : length bytes ≡ size = omega (arith, length-take size p.rest) in
    λ o h. then_ends place p q bytes o (subst (λ f. Keeps f bytes) (sym is) (len, fine)) (sym (take-append-drop size p.rest)) (omega (arith, len))
    (subst (λ f. Ends (next_of f bytes) q o) (sym is) (subst (λ k. Ends k q o) same h))
whole_tells place size flaw next to p x (Some d) is long wrong same =
    now place p (Some (fault d p)) (refl, subst (λ f. Breaks f d p.rest) (sym is) (inr (long, wrong)))

-- a field that is cut off
short_tells : (place : Place) (size : ℕ) (flaw : List ℕ → Option Flaw) (next : List ℕ → Place) (p : Cursor) → row place ≡ Bytes size flaw next → length p.rest < size → Ends place p (Some (fault Short p))
short_tells place size flaw next p is short = now place p (Some (fault Short p)) (refl, subst (λ f. Breaks f Short p.rest) (sym is) (inl (short, refl)))

pub number_tells : (place : Place) (flaw : ℕ → Option Flaw) (next : ℕ → Place) (p : Cursor) → row place ≡ word flaw next → Tells place next p (number_at flaw p)
unfolding number_at word_at
number_tells place flaw next p is = go (ltb (length p.rest) 4) refl
  where
    go : (b : Bool) → ltb (length p.rest) 4 ≡ b → Tells place next p (cond b (Err (fault Short p)) (Ok (from_be_bytes w32 (take 4 p.rest), record { rest = drop 4 p.rest; at = p.at + 4 })) >>= λ n. kept (flaw n.0) p n)
    go true e = short_tells place 4 (λ bytes. flaw (number bytes)) (λ bytes. next (number bytes)) p is (ltb-true _ _ e)
    go false e = whole_tells place 4 (λ bytes. flaw (number bytes)) (λ bytes. next (number bytes)) next p (number (take 4 p.rest)) (flaw (number (take 4 p.rest))) is (ltb-false _ _ e) refl refl

-- a number that keeps any rule
same_read : {A : Type 0} (r : Read A) → (r >>= λ n. Ok n) ≡ r
same_read (Ok x) = refl
same_read (Err e) = refl

pub word_tells : (place : Place) (next : ℕ → Place) (p : Cursor) → row place ≡ word any next → Tells place next p (word_at p)
unfolding number_at
word_tells place next p is = subst (Tells place next p) (same_read (word_at p)) (number_tells place any next p is)

pub text_tells : (place : Place) (len : ℕ) (flaw : List ℕ → Option Flaw) (next : List ℕ → Place) (p : Cursor) → row place ≡ text len flaw next → Tells place next p (bytes_at len p >>= λ b. kept (flaw b.0) p b)
unfolding bytes_at
text_tells place len flaw next p is = go (ltb (length p.rest) (len + padding len)) (list_all (λ b. b == 0) (drop len (take (len + padding len) p.rest))) refl refl
  where
    size : ℕ
    size = len + padding len

    judge : List ℕ → Option Flaw
    judge bytes = cond (list_all (λ b. b == 0) (drop len bytes)) (flaw (take len bytes)) (Some Value)

    behind : List ℕ → Place
    behind bytes = next (take len bytes)

    go : (b c : Bool) → ltb (length p.rest) (len + padding len) ≡ b → list_all (λ b. b == 0) (drop len (take (len + padding len) p.rest)) ≡ c
        → Tells place next p (cond b (Err (fault Short p)) (cond c (Ok (take len (take (len + padding len) p.rest), record { rest = drop (len + padding len) p.rest; at = p.at + (len + padding len) })) (Err (fault Value p))) >>= λ b. kept (flaw b.0) p b)
    go true c e f = short_tells place size judge behind p is (ltb-true _ _ e)
    go false true e f = whole_tells place size judge behind next p (take len (take size p.rest)) (flaw (take len (take size p.rest))) is (ltb-false _ _ e) (rw f refl) refl
    go false false e f = now place p (Some (fault Value p)) (refl, subst (λ k. Breaks k Value p.rest) (sym is) (inr (ltb-false _ _ e, rw f refl)))

-- ---- items, and a list behind its length

module _ {S A : Type 0} (item : S → Cursor → Read A) (next : S → A → S) (at : ℕ → S → Place) where
  pub many_tells : ((n : ℕ) (s : S) (p : Cursor) → Tells (at (suc n) s) (λ x. at n (next s x)) p (item s p))
      → (n : ℕ) (s : S) (p : Cursor) → Tells (at n s) (λ xs. at zero (fold next s xs)) p (many_at item next n s p)
  unfolding many_at
  many_tells tells zero s p = λ o h. h
  many_tells tells (suc n) s p =
      tells_then (at (suc n) s) (λ x. at n (next s x)) (λ xs. at zero (fold next s xs)) p (item s p) (λ first. many_at item next n (next s first.0) first.1 >>= λ others. Ok (first.0 ∷ others.0, others.1)) (tells n s p) (λ first e.
      tells_then (at n (next s first.0)) (λ xs. at zero (fold next (next s first.0) xs)) (λ xs. at zero (fold next s xs)) first.1 (many_at item next n (next s first.0) first.1) (λ others. Ok (first.0 ∷ others.0, others.1)) (many_tells tells n (next s first.0) first.1) (λ others f.
      λ o h. h))

  pub list_tells : (place : Place) (flaw : ℕ → Option Flaw) (s : S) (p : Cursor) → row place ≡ word flaw (λ n. at n s)
      → ((n : ℕ) (s : S) (p : Cursor) → Tells (at (suc n) s) (λ x. at n (next s x)) p (item s p)) → Tells place (λ xs. at zero (fold next s xs)) p (list_at flaw item next s p)
  unfolding list_at
  list_tells place flaw s p is tells =
      tells_then place (λ n. at n s) (λ xs. at zero (fold next s xs)) p (number_at flaw p) (λ n. many_at item next n.0 s n.1) (number_tells place flaw (λ n. at n s) p is) (λ n e.
      many_tells tells n.0 s n.1)

-- ---- no two outcomes

same_fault : (e u : FieldFault) → e.flaw ≡ u.flaw → e.offset ≡ u.offset → e ≡ u
same_fault e u a b = ap (λ (f : Flaw). record { flaw = f; offset = e.offset }) a ∙ ap (λ (n : ℕ). record { flaw = u.flaw; offset = n }) b

some_same : (a b : Flaw) (o : Option Flaw) → o ≡ Some a → o ≡ Some b → a ≡ b
some_same a b o e f = cc

broken_so : (k : Field) (a b : Flaw) (rest : List ℕ) → Breaks k a rest → Breaks k b rest → a ≡ b
broken_so (Bytes size flaw next) a b rest (inl x) (inl y) = x.1 ∙ sym y.1
broken_so (Bytes size flaw next) a b rest (inl x) (inr y) = absurd (omega (arith, x.0, y.0))
broken_so (Bytes size flaw next) a b rest (inr x) (inl y) = absurd (omega (arith, x.0, y.0))
broken_so (Bytes size flaw next) a b rest (inr x) (inr y) = some_same a b (flaw (take size rest)) x.1 y.1
broken_so End a b rest x y = x.1 ∙ sym y.1

no_end : (k : Field) (flaw : Flaw) (rest : List ℕ) → k ≡ End → rest ≡ [] → Breaks k flaw rest → ⊥
no_end k flaw rest e f h = let b : Breaks End flaw [] = subst (λ r. Breaks End flaw r) f (subst (λ x. Breaks x flaw rest) e h) in absurd (omega (arith, b.0))

same_outcome : (k : Field) (rest : List ℕ) (at : ℕ) (o u : Option FieldFault) → Outcome k rest at o → Outcome k rest at u → o ≡ u
same_outcome k rest at None None x y = refl
same_outcome k rest at None (Some u) x y = absurd (no_end k u.flaw rest x.0 x.1 y.1)
same_outcome k rest at (Some e) None x y = absurd (no_end k e.flaw rest y.0 y.1 x.1)
same_outcome k rest at (Some e) (Some u) x y = ap Some (same_fault e u (broken_so k e.flaw u.flaw rest x.1 y.1) (x.0 ∙ sym y.0))

-- a field that keeps its rule is no outcome
none_some : (o : Option Flaw) (d : Flaw) → o ≡ None → o ≡ Some d → ⊥
none_some o d e f = absurd cc

no_outcome : (k : Field) (bytes more : List ℕ) (at : ℕ) (o : Option FieldFault) → Keeps k bytes → Outcome k (bytes ++ more) at o → ⊥
no_outcome End bytes more at o h x = h
no_outcome (Bytes size flaw next) bytes more at None h x = not_end (Bytes size flaw next) x.0
  where
    not_end : (k : Field) → k ≡ End → ⊥
    not_end k e = absurd cc
no_outcome (Bytes size flaw next) bytes more at (Some e) h (x, inl y) = absurd (omega (arith, h.0, y.0, length-append bytes more))
no_outcome (Bytes size flaw next) bytes more at (Some e) h (x, inr y) = none_some (flaw bytes) e.flaw h.1 (sym (ap flaw (take_at bytes more size h.0)) ∙ y.1)

same_field : (k : Field) (f g xs ys : List ℕ) → Keeps k f → Keeps k g → f ++ xs ≡ g ++ ys → (f ≡ g) × (xs ≡ ys)
same_field End f g xs ys a b e = absurd a
same_field (Bytes size flaw next) f g xs ys a b e = (sym (take_at f xs size a.0) ∙ ap (take size) e ∙ take_at g ys size b.0, sym (drop_at f xs size a.0) ∙ ap (drop size) e ∙ drop_at g ys size b.0)

one_outcome : (place : Place) (fs gs : List (List ℕ)) (xs ys : List ℕ) (at : ℕ) (o u : Option FieldFault) → concat fs ++ xs ≡ concat gs ++ ys → AreFields place fs → AreFields place gs
    → Outcome (row (after_all place fs)) xs (at + length (concat fs)) o → Outcome (row (after_all place gs)) ys (at + length (concat gs)) u → o ≡ u
one_outcome place [] [] xs ys at o u e a b x y = same_outcome (row place) xs (at + 0) o u x (subst (λ r. Outcome (row place) r (at + 0) u) (sym e) y)
one_outcome place [] (g ∷ gs) xs ys at o u e a b x y =
    absurd (no_outcome (row place) g (concat gs ++ ys) (at + 0) o b.0 (subst (λ r. Outcome (row place) r (at + 0) o) (e ∙ append_assoc g (concat gs) ys) x))
one_outcome place (f ∷ fs) [] xs ys at o u e a b x y =
    absurd (no_outcome (row place) f (concat fs ++ xs) (at + 0) u a.0 (subst (λ r. Outcome (row place) r (at + 0) u) (sym e ∙ append_assoc f (concat fs) xs) y))
one_outcome place (f ∷ fs) (g ∷ gs) xs ys at o u e a b x y =
    let s = same_field (row place) f g (concat fs ++ xs) (concat gs ++ ys) a.0 b.0 (sym (append_assoc f (concat fs) xs) ∙ e ∙ append_assoc g (concat gs) ys) in
    let b1 : AreFields (after place f) gs = subst (λ (z : List ℕ). AreFields (after place z) gs) (sym s.0) b.1 in
    let y1 : Outcome (row (after_all (after place f) gs)) ys (at + length (f ++ concat gs)) u = subst (λ (z : List ℕ). Outcome (row (after_all (after place z) gs)) ys (at + length (z ++ concat gs)) u) (sym s.0) y in
    one_outcome (after place f) fs gs xs ys (at + length f) o u s.1 a.1 b1
    (subst (λ n. Outcome (row (after_all (after place f) fs)) xs n o) (omega (arith, length-append f (concat fs))) x)
    (subst (λ n. Outcome (row (after_all (after place f) gs)) ys n u) (omega (arith, length-append f (concat gs))) y1)

pub ends_once : (place : Place) (p : Cursor) (o u : Option FieldFault) → Ends place p o → Ends place p u → o ≡ u
ends_once place p o u a b = one_outcome place a.fields b.fields a.rest b.rest p.at o u (sym a.parts ∙ b.parts) a.keep b.keep a.outcome b.outcome

-- ---- what each reader tells

number_then : {B : Type 0} (place : Place) (flaw : ℕ → Option Flaw) (next : ℕ → Place) (last : B → Place) (p : Cursor) (f : ℕ × Cursor → Read B) → row place ≡ word flaw next → ((n : ℕ × Cursor) → Tells (next n.0) last n.1 (f n)) → Tells place last p (number_at flaw p >>= f)
number_then place flaw next last p f is go = tells_then place next last p (number_at flaw p) f (number_tells place flaw next p is) (λ n e. go n)

word_then : {B : Type 0} (place : Place) (next : ℕ → Place) (last : B → Place) (p : Cursor) (f : ℕ × Cursor → Read B) → row place ≡ word any next → ((n : ℕ × Cursor) → Tells (next n.0) last n.1 (f n)) → Tells place last p (word_at p >>= f)
word_then place next last p f is go = tells_then place next last p (word_at p) f (word_tells place next p is) (λ n e. go n)

words_tell : (at : ℕ → Place) (place : Place) (flaw : ℕ → Option Flaw) (p : Cursor) → row place ≡ word flaw at → ((n : ℕ) → row (at (suc n)) ≡ word any (λ x. at n)) → Tells place (λ xs. at zero) p (word_list_at flaw p)
words_tell at place flaw p is items = list_tells each_word no_more (λ n s. at n) place flaw tt p is (λ n s q. word_tells (at (suc n)) (λ x. at n) q (items n))

each_text_tells : (n room : ℕ) (p : Cursor) → Tells (texts (suc n) room) (λ t. texts n (after_text room t)) p (text_at room p)
unfolding text_at
each_text_tells n room p =
    number_then (AtTextLength n room) (at_most Count room) (λ len. AtText n room len) (λ t. texts n (after_text room t)) p (λ len. bytes_at len.0 len.1) refl (λ len.
    subst (Tells (AtText n room len.0) (λ t. texts n (after_text room t)) len.1) (same_read (bytes_at len.0 len.1)) (text_tells (AtText n room len.0) len.0 any (λ t. texts n (after_text room t)) len.1 refl))

atom_tells : (n : ℕ) (earlier : List (List ℕ)) (p : Cursor) → Tells (atoms (suc n) earlier) (λ a. atoms n (and_atom earlier a)) p (atom_at earlier p)
unfolding atom_at
atom_tells n earlier p =
    word_then (AtAtomLength n earlier) (λ len. AtAtom n earlier len) (λ a. atoms n (and_atom earlier a)) p (λ len. bytes_at len.0 len.1 >>= λ b. kept (new_name earlier b.0) len.1 b) refl (λ len.
    text_tells (AtAtom n earlier len.0) len.0 (new_name earlier) (λ a. atoms n (and_atom earlier a)) len.1 refl)

native_tells : (n : ℕ) (t : Turn) (p : Cursor) → Tells (natives (suc n) t) (λ x. natives n (after_native t x)) p (native_at t p)
unfolding native_at
native_tells n t p =
    let last = λ (x : Native). natives n (after_native t x) in
    number_then (AtNative n t) (at_least Order t.least) (λ fid. AtFirst n fid t.place) last p _ refl (λ fid.
    number_then (AtFirst n fid.0 t.place) (exactly Value t.place) (λ first. AtWords n fid.0 first) last fid.1 _ refl (λ first.
    number_then (AtWords n fid.0 first.0) (at_least Value 1) (λ count. natives n (turn (fid.0 + 1) (first.0 + count))) last first.1 _ refl (λ count.
    λ o h. h)))

kind_tells : (n least frame : ℕ) (p : Cursor) → Tells (AtKind n least frame) (λ kind. AtHandler n least frame kind) p (kind_at p)
unfolding kind_at
kind_tells n least frame p =
    number_then (AtKind n least frame) (at_most Value 2) (λ kind. AtHandler n least frame (kind_numbered kind)) (λ kind. AtHandler n least frame kind) p (λ k. Ok (kind_numbered k.0, k.1)) refl (λ k.
    λ o h. h)

live_tells : (n least frame : ℕ) (p : Cursor) → Tells (masks (mask_words frame) n least frame 0) (λ live. descriptors n least) p (live_at frame p)
unfolding live_at
live_tells n least frame p =
    tells_then (masks (mask_words frame) n least frame 0) (λ words. descriptors n least) (λ live. descriptors n least) p (masks_at frame p) (λ words. Ok (live_slots words.0, words.1))
    (many_tells (mask_at frame) after_mask (λ words k. masks words n least frame k) (λ words k q. number_tells (AtMask words n least frame k) (mask_word frame k) (λ w. masks words n least frame (k + 1)) q refl) (mask_words frame) 0 p)
    (λ words e. λ o h. h)

descriptor_tells : (n least : ℕ) (p : Cursor) → Tells (descriptors (suc n) least) (λ d. descriptors n (after_descriptor least d)) p (descriptor_at least p)
unfolding descriptor_at
descriptor_tells n least p =
    let last = λ (d : Descriptor). descriptors n (after_descriptor least d) in
    number_then (AtRet n least) (at_least Order least) (λ ret. AtFid n (ret + 1)) last p _ refl (λ ret.
    let next = ret.0 + 1 in
    word_then (AtFid n next) (λ fid. AtItem n next) last ret.1 _ refl (λ fid.
    word_then (AtItem n next) (λ item. AtFrame n next) last fid.1 _ refl (λ item.
    number_then (AtFrame n next) (within Value 1 MOST_FRAME) (λ frame. AtKind n next frame) last item.1 _ refl (λ frame.
    tells_then (AtKind n next frame.0) (λ kind. AtHandler n next frame.0 kind) last frame.1 (kind_at frame.1) _ (kind_tells n next frame.0 frame.1) (λ kind e4.
    number_then (AtHandler n next frame.0 kind.0) (handler_of kind.0) (λ handler. masks (mask_words frame.0) n next frame.0 0) last kind.1 _ refl (λ handler.
    tells_then (masks (mask_words frame.0) n next frame.0 0) (λ live. descriptors n next) last handler.1 (live_at frame.0 handler.1) _ (live_tells n next frame.0 handler.1) (λ live e6.
    λ o h. h)))))))

-- the code words are as many as the native functions have
code_place : (p : Cursor) (x : List Native × Cursor) → natives_at p ≡ Ok x → (fold after_native first_turn x.0).place ≡ total_count x.0
unfolding list_at
code_place p x e = bind_case (number_at (at_most Count MOST_NATIVES) p) (λ n. many_at native_at after_native n.0 first_turn n.1) x e (λ n h0 h1. omega (arith, natives_place n.0 first_turn n.1 x h1))

code_then : {B : Type 0} (place total : ℕ) (last : B → Place) (p : Cursor) (f : List ℕ × Cursor → Read B) → place ≡ total → ((xs : List ℕ × Cursor) → Tells AtDescriptors last xs.1 (f xs)) → Tells (AtCode place) last p (word_list_at (code_count total) p >>= f)
code_then place total last p f e go =
    subst (λ n. Tells (AtCode n) last p (word_list_at (code_count total) p >>= f)) (sym e)
    (tells_then (AtCode total) (λ xs. AtDescriptors) last p (word_list_at (code_count total) p) f (words_tell code (AtCode total) (code_count total) p refl (λ n. refl)) (λ xs h. go xs))

parts_tell : (p : Cursor) → Tells AtMagic (λ ps. AtEnd) p (parts_at p)
unfolding parts_at
parts_tell p =
    let last = λ (ps : Parts). AtEnd in
    number_then AtMagic (exactly Magic MAGIC) (λ n. AtVersion) last p _ refl (λ magic.
    number_then AtVersion (exactly Version VERSION) (λ n. AtModules) last magic.1 _ refl (λ version.
    tells_then AtModules (λ xs. AtAtoms) last version.1 (texts_at version.1) _ (list_tells text_at after_text texts AtModules (within Count 1 MOST_MODULES) MOST_TEXT_BYTES version.1 refl each_text_tells) (λ ts e2.
    tells_then AtAtoms (λ xs. AtLiterals) last ts.1 (atoms_at ts.1) _ (list_tells atom_at and_atom atoms AtAtoms (at_most Count MOST_ATOMS) [] ts.1 refl atom_tells) (λ names e3.
    tells_then AtLiterals (λ xs. AtRoots) last names.1 (word_list_at (at_most Count MOST_LITERALS) names.1) _ (words_tell literals AtLiterals (at_most Count MOST_LITERALS) names.1 refl (λ n. refl)) (λ words e4.
    tells_then AtRoots (λ xs. AtNatives) last words.1 (word_list_at any words.1) _ (words_tell roots AtRoots any words.1 refl (λ n. refl)) (λ rs e5.
    tells_then AtNatives (λ ns. AtCode (fold after_native first_turn ns).place) last rs.1 (natives_at rs.1) _ (list_tells native_at after_native natives AtNatives (at_most Count MOST_NATIVES) first_turn rs.1 refl native_tells) (λ ns e6.
    code_then (fold after_native first_turn ns.0).place (total_count ns.0) last ns.1 _ (code_place rs.1 ns e6) (λ cs.
    tells_then AtDescriptors (λ ds. AtEnd) last cs.1 (descriptors_at cs.1) _ (list_tells descriptor_at after_descriptor descriptors AtDescriptors (at_most Count MOST_DESCRIPTORS) 0 cs.1 refl descriptor_tells) (λ ds e8.
    λ o h. h)))))))))

-- ---- the law

abbrev fault_of : {A : Type 0} → Result A FieldFault → Option FieldFault
fault_of (Ok x) = None
fault_of (Err e) = Some e

from_fault : {A : Type 0} (r : Result A FieldFault) (e : FieldFault) → fault_of r ≡ Some e → r ≡ Err e
from_fault (Ok x) e h = absurd cc
from_fault (Err d) e h = cc

some_bytes : (bytes : List ℕ) → (length bytes == 0) ≡ false → 0 < length bytes
some_bytes [] e = absurd cc
some_bytes (b ∷ bytes) e = omega arith

abbrev well : Result (Unit {0}) FieldFault
well = Ok tt

at_end : (ps : Parts) (p : Cursor) → Ends AtEnd p (fault_of (end_at p >>= λ end. Ok ps))
unfolding end_at
at_end ps p = go (length p.rest == 0) refl
  where
    go : (b : Bool) → (length p.rest == 0) ≡ b → Ends AtEnd p (fault_of (cond b well (Err (fault Long p)) >>= λ end. Ok ps))
    go true e = now AtEnd p None (refl, nil_from_length p.rest (eqb-true _ _ e))
    go false e = now AtEnd p (Some (fault Long p)) (refl, (some_bytes p.rest e, refl))

reading_ends : (bytes : List ℕ) → Ends AtMagic (start bytes) (fault_of (reading bytes))
unfolding reading
reading_ends bytes = go (parts_at (start bytes)) (parts_tell (start bytes))
  where
    go : (r : Read Parts) → Tells AtMagic (λ ps. AtEnd) (start bytes) r → Ends AtMagic (start bytes) (fault_of (r >>= λ p. end_at p.1 >>= λ end. Ok p.0))
    go (Ok x) t = t (fault_of (end_at x.1 >>= λ end. Ok x.0)) (at_end x.0 x.1)
    go (Err e) t = t

pub refused_is : (bytes : List ℕ) (e : FieldFault) → (reading bytes ≡ Err e) ↔ IsRefused bytes e
refused_is bytes e = (
  λ h.
      let t = subst (λ r. Ends AtMagic (start bytes) (fault_of r)) h (reading_ends bytes) in
      record { fields = t.fields; rest = t.rest; parts = t.parts; keep = t.keep; before = omega (arith, t.outcome.0); breaks = t.outcome.1 },
  λ r.
      let t : Ends AtMagic (start bytes) (Some e) = record { fields = r.fields; rest = r.rest; parts = r.parts; keep = r.keep; outcome = (omega (arith, r.before), r.breaks) } in
      from_fault (reading bytes) e (ends_once AtMagic (start bytes) (fault_of (reading bytes)) (Some e) (reading_ends bytes) t),
)
