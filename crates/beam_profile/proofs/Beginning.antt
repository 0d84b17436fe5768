-- A beginning that is read is one in the words of the rule, and the other way.
use Rattle.std.proofs.Common.{◌≡◌, ℕ, ◌+◌, Bool, true, false, ◌&&◌, nat_eq, if◌then◌else◌, List, [], ◌∷◌, ◌++◌, length, Option, Some, None, refl, sym, ap, ◌∙◌, arith}
use Rattle.std.specs.Prelude.{option_and_then}
use Rattle.std.proofs.lemmas.Slice.Eq.{bytes_eq-Decides}
use Rattle.std.proofs.lemmas.Bool.Decides.{Decides-eqb}
use Rattle.term_tree.specs.Name.{same_name}
use Rattle.term_tree.proofs.TermLaws.{both_hold}
use Rattle.beam_profile.specs.declared.header.Head.{Head}
use Rattle.beam_profile.specs.declared.sequence.Stage.{Stage}
use Rattle.beam_profile.specs.declared.sequence.Stage.TheVariants.{WantsLabel, WantsInfo, WantsEntry, Begun}
use Rattle.beam_profile.specs.Sequence.{Mark, Passive, Marks, Info, Other, is_own, next}
use Rattle.beam_profile.specs.Forms.{without_passive, own_info, Begins}

module _ (owner : List ℕ) (h : Head) where
  -- where the beginning is after these marks
  abbrev pub run : ℕ → Stage → List Mark → Option Stage
  run at s [] = Some s
  run at s (m ∷ ms) = option_and_then (λ t. run (at + 1) t ms) (next owner h at s m)

  -- what a beginning still lacks at a stage: the marks before the entry label, apart from lines and comments
  abbrev lacks : ℕ → Stage → List Mark → Type 0
  lacks n WantsLabel ms = ms ≡ Marks n ∷ own_info owner h ∷ []
  lacks n WantsInfo ms = ms ≡ own_info owner h ∷ []
  lacks n WantsEntry ms = ms ≡ []
  lacks n (Begun at) ms = ⊥

  record Lacking (at : ℕ) (s : Stage) (ms : List Mark) (k : ℕ) : Type 0 where
    front : List Mark
    behind : List Mark
    label : ℕ
    all : ms ≡ front ++ Marks h.entry ∷ behind
    front_is : lacks label s (without_passive front)
    place : k ≡ at + length front

  still : (at k n : ℕ) (ms : List Mark) → run at (Begun n) ms ≡ Some (Begun k) → n ≡ k
  still at k n [] e = cc
  still at k n (Passive ∷ ms) e = still (at + 1) k n ms e
  still at k n (Marks m ∷ ms) e = still (at + 1) k n ms e
  still at k n (Info m p a ∷ ms) e = still (at + 1) k n ms e
  still at k n (Other ∷ ms) e = still (at + 1) k n ms e

  known : (m n : List ℕ) (a : ℕ) → is_own owner h m n a ≡ true → Info m n a ≡ own_info owner h
  known m n a e =
      let outer = both_hold (same_name m owner && same_name n h.name) (nat_eq a h.arity) e in
      let inner = both_hold (same_name m owner) (same_name n h.name) outer.0 in
      let owner_is : m ≡ owner = (bytes_eq-Decides m owner).0 inner.0 in
      let name_is : n ≡ h.name = (bytes_eq-Decides n h.name).0 inner.1 in
      let arity_is : a ≡ h.arity = (Decides-eqb a h.arity).0 outer.1 in
      cc

  passive-first : (at : ℕ) (s : Stage) (ms : List Mark) (k : ℕ) → Lacking (at + 1) s ms k → Lacking at s (Passive ∷ ms) k
  passive-first at s ms k r = record { front = Passive ∷ r.front; behind = r.behind; label = r.label; all = ap (λ z. Passive ∷ z) r.all; front_is = r.front_is; place = r.place ∙ omega arith }

  forth-info : (at k : ℕ) (ms : List Mark) (m n : List ℕ) (a : ℕ) (b : Bool) → is_own owner h m n a ≡ b → option_and_then (λ t. run (at + 1) t ms) (if b then Some WantsEntry else None) ≡ Some (Begun k) →
      (run (at + 1) WantsEntry ms ≡ Some (Begun k) → Lacking (at + 1) WantsEntry ms k) → Lacking at WantsInfo (Info m n a ∷ ms) k
  forth-info at k ms m n a true i e go =
      let r = go e in
      record { front = Info m n a ∷ r.front; behind = r.behind; label = r.label; all = ap (λ z. Info m n a ∷ z) r.all; front_is = ap (λ z. z ∷ without_passive r.front) (known m n a i) ∙ ap (λ zs. own_info owner h ∷ zs) r.front_is; place = r.place ∙ omega arith }
  forth-info at k ms m n a false i e go = absurd cc

  forth-entry : (at k n : ℕ) (ms : List Mark) (b : Bool) → nat_eq n h.entry ≡ b → option_and_then (λ t. run (at + 1) t ms) (if b then Some (Begun at) else None) ≡ Some (Begun k) → Lacking at WantsEntry (Marks n ∷ ms) k
  forth-entry at k n ms true i e =
      let same_label : n ≡ h.entry = grind arith in
      let here : at ≡ k = still (at + 1) k at ms e in
      record { front = []; behind = ms; label = 0; all = ap (λ z. Marks z ∷ ms) same_label; front_is = refl; place = sym here ∙ omega arith }
  forth-entry at k n ms false i e = absurd cc

  forth : (at k : ℕ) (s : Stage) (ms : List Mark) → ((n : ℕ) → s ≡ Begun n → ⊥) → run at s ms ≡ Some (Begun k) → Lacking at s ms k
  forth at k s [] open_yet e = absurd (open_yet k cc)
  forth at k WantsLabel (Passive ∷ ms) open_yet e = passive-first at WantsLabel ms k (forth (at + 1) k WantsLabel ms open_yet e)
  forth at k WantsInfo (Passive ∷ ms) open_yet e = passive-first at WantsInfo ms k (forth (at + 1) k WantsInfo ms open_yet e)
  forth at k WantsEntry (Passive ∷ ms) open_yet e = passive-first at WantsEntry ms k (forth (at + 1) k WantsEntry ms open_yet e)
  forth at k WantsLabel (Marks n ∷ ms) open_yet e =
      let r = forth (at + 1) k WantsInfo ms (λ m g. cc) e in
      record { front = Marks n ∷ r.front; behind = r.behind; label = n; all = ap (λ z. Marks n ∷ z) r.all; front_is = ap (λ zs. Marks n ∷ zs) r.front_is; place = r.place ∙ omega arith }
  forth at k WantsLabel (Info m n a ∷ ms) open_yet e = absurd cc
  forth at k WantsLabel (Other ∷ ms) open_yet e = absurd cc
  forth at k WantsInfo (Marks n ∷ ms) open_yet e = absurd cc
  forth at k WantsInfo (Info m n a ∷ ms) open_yet e = forth-info at k ms m n a (is_own owner h m n a) refl e (forth (at + 1) k WantsEntry ms (λ m g. cc))
  forth at k WantsInfo (Other ∷ ms) open_yet e = absurd cc
  forth at k WantsEntry (Marks n ∷ ms) open_yet e = forth-entry at k n ms (nat_eq n h.entry) refl e
  forth at k WantsEntry (Info m n a ∷ ms) open_yet e = absurd cc
  forth at k WantsEntry (Other ∷ ms) open_yet e = absurd cc
  forth at k (Begun n) (m ∷ ms) open_yet e = absurd (open_yet n refl)

  pub begins-forth : (ms : List Mark) (k : ℕ) → run 0 WantsLabel ms ≡ Some (Begun k) → Begins owner h ms k
  begins-forth ms k e =
      let r = forth 0 k WantsLabel ms (λ n g. cc) e in
      record { front = r.front; behind = r.behind; label = r.label; all = r.all; front_is = r.front_is; place = r.place ∙ omega arith }

  -- and back
  stays : (at k : ℕ) (ms : List Mark) → run at (Begun k) ms ≡ Some (Begun k)
  stays at k [] = refl
  stays at k (Passive ∷ ms) = stays (at + 1) k ms
  stays at k (Marks m ∷ ms) = stays (at + 1) k ms
  stays at k (Info m p a ∷ ms) = stays (at + 1) k ms
  stays at k (Other ∷ ms) = stays (at + 1) k ms

  info-own : is_own owner h owner h.name h.arity ≡ true
  info-own = rw ((bytes_eq-Decides owner owner).1 refl, (bytes_eq-Decides h.name h.name).1 refl, (Decides-eqb h.arity h.arity).1 refl) refl

  entry-own : (n : ℕ) → nat_eq n n ≡ true
  entry-own n = grind arith

  info-step : (at : ℕ) (m n : List ℕ) (a : ℕ) (ms : List Mark) → is_own owner h m n a ≡ true → run at WantsInfo (Info m n a ∷ ms) ≡ run (at + 1) WantsEntry ms
  info-step at m n a ms e = ap (λ b. option_and_then (λ t. run (at + 1) t ms) (if b then Some WantsEntry else None)) e

  own : (m n : List ℕ) (a : ℕ) → m ≡ owner → n ≡ h.name → a ≡ h.arity → is_own owner h m n a ≡ true
  own m n a e g i = rw (e, g, i) info-own

  back : (at n : ℕ) (s : Stage) (front behind : List Mark) → lacks n s (without_passive front) → run at s (front ++ Marks h.entry ∷ behind) ≡ Some (Begun (at + length front))
  back at n WantsLabel [] behind l = absurd cc
  back at n WantsInfo [] behind l = absurd cc
  back at n WantsEntry [] behind l =
      let here : at ≡ at + 0 = omega arith in
      ap (λ b. option_and_then (λ t. run (at + 1) t behind) (if b then Some (Begun at) else None)) (entry-own h.entry) ∙ stays (at + 1) at behind ∙ ap (λ z. Some (Begun z)) here
  back at n (Begun m) front behind l = absurd l
  back at n WantsLabel (Passive ∷ front) behind l = back (at + 1) n WantsLabel front behind l ∙ ap (λ z. Some (Begun z)) (omega arith)
  back at n WantsInfo (Passive ∷ front) behind l = back (at + 1) n WantsInfo front behind l ∙ ap (λ z. Some (Begun z)) (omega arith)
  back at n WantsEntry (Passive ∷ front) behind l = back (at + 1) n WantsEntry front behind l ∙ ap (λ z. Some (Begun z)) (omega arith)
  back at n WantsLabel (Marks m ∷ front) behind l =
      let more : without_passive front ≡ own_info owner h ∷ [] = cc in
      back (at + 1) n WantsInfo front behind more ∙ ap (λ z. Some (Begun z)) (omega arith)
  back at n WantsLabel (Info m p a ∷ front) behind l = absurd cc
  back at n WantsLabel (Other ∷ front) behind l = absurd cc
  back at n WantsInfo (Marks m ∷ front) behind l = absurd cc
  back at n WantsInfo (Info m p a ∷ front) behind l =
      let owner_is : m ≡ owner = cc in
      let name_is : p ≡ h.name = cc in
      let arity_is : a ≡ h.arity = cc in
      let more : without_passive front ≡ [] = cc in
      info-step at m p a (front ++ Marks h.entry ∷ behind) (own m p a owner_is name_is arity_is) ∙ back (at + 1) n WantsEntry front behind more ∙ ap (λ z. Some (Begun z)) (omega arith)
  back at n WantsInfo (Other ∷ front) behind l = absurd cc
  back at n WantsEntry (Marks m ∷ front) behind l = absurd cc
  back at n WantsEntry (Info m p a ∷ front) behind l = absurd cc
  back at n WantsEntry (Other ∷ front) behind l = absurd cc

  at_place : {k n : ℕ} → k ≡ n → Some (Begun (0 + n)) ≡ Some (Begun k)
  at_place {k} {n} e = let sum : 0 + n ≡ k = omega arith in ap (λ z. Some (Begun z)) sum

  pub begins-back : (ms : List Mark) (k : ℕ) → Begins owner h ms k → run 0 WantsLabel ms ≡ Some (Begun k)
  begins-back ms k b = ap (run 0 WantsLabel) b.all ∙ back 0 b.label WantsLabel b.front b.behind b.front_is ∙ at_place b.place
