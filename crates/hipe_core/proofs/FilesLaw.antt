-- The words that name files, one after the other, and the texts of these.
use Rattle.std.proofs.Common.{◌≡◌, ℕ, zero, suc, ◌+◌, ◌-◌, ◌<◌, ◌≤◌, List, [], ◌∷◌, ◌++◌, length, take, drop, min, All, Some, Err, inl, inr, slice_get, refl, sym, ap, subst, ◌∙◌, arith}
use Rattle.std.proofs.lemmas.List.{length-append}
use Rattle.hipe_base.specs.Count.{RoseBy, counted, most}
use Rattle.hipe_base.specs.Files.{Held, Told, HoldsFile, FilesFailed, Lacks}
use Rattle.hipe_base.specs.Reading.{IsLonger}
use Rattle.hipe_core.specs.declared.ending.Ending.{Ending}
use Rattle.hipe_core.specs.declared.ending.Ending.TheVariants.{CannotRead, NoMemory, TooLong}
use Rattle.hipe_core.specs.Files.{AreHeld, AreTexts, Course, FilesEnd, IsOneMore, IsQuiet, ReadsFile, course}
use Rattle.beam_profile.specs.declared.refusal.ModuleRefusal.{ModuleRefusal}
use Rattle.module_texts.specs.Texts.{AreRefusedBy, IsUnread}
use Rattle.module_texts.specs.declared.refusal.TextsRefusal.{TextsRefusal}
use Rattle.module_texts.specs.declared.refusal.TextsRefusal.TheVariants.{Module}
use Rattle.native_link.proofs.Second.{all_within, unread_within}
use Rattle.image_format.specs.Fitting.{total_length}
use Rattle.beam_code.specs.declared.module.TheConstants.{MOST_TEXT_BYTES}

-- the next item of a list
drop_split : {A : Type 0} (xs : List A) (k : ℕ) (x : A) (rest : List A) → drop k xs ≡ x ∷ rest →
    (slice_get xs k ≡ Some x) × (take (suc k) xs ≡ take k xs ++ x ∷ []) × (drop (suc k) xs ≡ rest)
drop_split [] zero x rest e = absurd cc
drop_split [] (suc k) x rest e = absurd cc
drop_split (y ∷ ys) zero x rest e = let same : y ≡ x = cc in let others : ys ≡ rest = cc in (ap Some same, ap (λ z. z ∷ []) same, others)
drop_split (y ∷ ys) (suc k) x rest e = let r = drop_split ys k x rest e in (r.0, ap (λ (zs : List _). y ∷ zs) r.1, r.2)

held_push : (held : Held) (fs ts : List (List ℕ)) (f t : List ℕ) → AreHeld held fs ts → HoldsFile held f t → AreHeld held (fs ++ f ∷ []) (ts ++ t ∷ [])
held_push held [] [] f t h one = (one, tt)
held_push held [] (s ∷ ts) f t h one = absurd h
held_push held (g ∷ fs) [] f t h one = absurd h
held_push held (g ∷ fs) (s ∷ ts) f t h one = (h.0, held_push held fs ts f t h.1 one)

total_push : (ts : List (List ℕ)) (t : List ℕ) → total_length (ts ++ t ∷ []) ≡ total_length ts + length t
total_push [] t = omega arith
total_push (s ∷ ts) t = omega (arith, total_push ts t)

-- one text more
one_more_text : (held : Held) (names texts after rest : List (List ℕ)) (file t : List ℕ) → AreTexts held (take (length texts) names) texts →
    drop (length texts) names ≡ file ∷ rest → HoldsFile held file t → total_length texts + length t ≤ MOST_TEXT_BYTES → after ≡ texts ++ t ∷ [] →
    AreTexts held (take (length after) names) after × (drop (length after) names ≡ rest)
one_more_text held names texts after rest file t before left one fits pushed =
    let d = drop_split names (length texts) file rest left in
    let count : length after ≡ length texts + 1 = ap length pushed ∙ length-append texts (t ∷ []) in
    let long : length after ≡ suc (length texts) = omega (arith, count) in (
      subst (λ (n : ℕ). AreTexts held (take n names) after) (sym long)
          (subst (λ (l : List (List ℕ)). AreTexts held (take (suc (length texts)) names) l) (sym pushed)
          (subst (λ (l : List (List ℕ)). AreTexts held l (texts ++ t ∷ [])) (sym d.1) (record {
            held_so = held_push held (take (length texts) names) texts file t before.held_so one;
            few = (let sum = total_push texts t in omega arith);
          }))),
      ap (λ n. drop n names) long ∙ d.2,
    )

rose_by_all : (before mid after used room : ℕ) → counted before used ≤ mid → used + room ≡ MOST_TEXT_BYTES → RoseBy mid room after → RoseBy before MOST_TEXT_BYTES after
rose_by_all before mid after used room e sum rose = let r : min (mid + room + 1) most ≤ after = rose in omega arith

counted_more : (before mid after used more : ℕ) → counted before used ≤ mid → after ≡ counted mid more → counted before (used + more) ≤ after
counted_more before mid after used more e f = omega (arith, e, f)

-- two calls one after the other
quiet_both : (a b c : Told) → IsQuiet (course a b) → IsQuiet (course b c) → IsQuiet (course a c)
quiet_both a b c p q = record { held = q.held ∙ p.held; faults = omega (arith, p.faults, q.faults); taken = omega (arith, p.taken, q.taken) }

-- so many of the files were read, with these texts, and so much room is left
pub record Going (c : Course) (names left texts : List (List ℕ)) (room : ℕ) : Type 0 where
  pub read : AreTexts c.before.held (take (length texts) names) texts
  pub behind : drop (length texts) names ≡ left
  pub room_left : total_length texts + room ≡ MOST_TEXT_BYTES
  pub taken : counted c.before.taken (total_length texts) ≤ c.after.taken
  pub quiet : IsQuiet c

-- one file more was read
pub goes_on : (a b c : Told) (names others rest texts after : List (List ℕ)) (file : List ℕ) (room left : ℕ) → others ≡ file ∷ rest →
    Going (course a b) names others texts room → IsOneMore texts after file room left (course b c) → IsQuiet (course b c) → Going (course a c) names rest after left
goes_on a b c names others rest texts after file room left is g one quiet =
    let holds : HoldsFile a.held file one.text = subst (λ (h : Held). HoldsFile h file one.text) g.quiet.held one.read.holds in
    let fits : total_length texts + length one.text ≤ MOST_TEXT_BYTES = omega (arith, g.room_left, one.read.fits) in
    let more = one_more_text a.held names texts after rest file one.text g.read (g.behind ∙ is) holds fits one.pushed in
    let total : total_length after ≡ total_length texts + length one.text = ap total_length one.pushed ∙ total_push texts one.text in
    let taken = counted_more a.taken b.taken c.taken (total_length texts) (length one.text) g.taken one.read.taken in
    record {
      read = more.0;
      behind = more.1;
      room_left = omega (arith, total, g.room_left, one.sum);
      taken = subst (λ (n : ℕ). counted a.taken n ≤ c.taken) (sym total) taken;
      quiet = quiet_both a b c g.quiet quiet;
    }

failed_since : (a b c : Told) (file : List ℕ) → IsQuiet (course a b) → FilesFailed b.faults c.faults b.held file → FilesFailed a.faults c.faults a.held file
failed_since a b c file q (inl rose) = inl (let r : min (b.faults + 1) most ≤ c.faults = rose in omega (arith, q.faults))
failed_since a b c file q (inr lacks) = inr (subst (λ (h : Held). Lacks h file) q.held lacks)

-- the file at which the reading stopped
pub stops : (a b c : Told) (names others rest texts : List (List ℕ)) (file : List ℕ) (room : ℕ) (e : Ending) → others ≡ file ∷ rest →
    Going (course a b) names others texts room → ReadsFile (Err e) file room (course b c) → FilesEnd e names (course a c)
stops a b c names others rest texts file room (CannotRead name) is g r =
    let at = (drop_split names (length texts) file rest (g.behind ∙ is)).0 in
    record {
      reached = record { index = length texts; is = at ∙ ap Some (sym r.0); texts = texts; before = g.read };
      failed = subst (λ (f : List ℕ). FilesFailed a.faults c.faults a.held f) (sym r.0) (failed_since a b c file g.quiet r.1);
    }
stops a b c names others rest texts file room (TooLong name) is g r =
    let at = (drop_split names (length texts) file rest (g.behind ∙ is)).0 in
    let left : room ≡ MOST_TEXT_BYTES - total_length texts = omega (arith, g.room_left) in
    let here : IsLonger a.held file room = subst (λ (h : Held). IsLonger h file room) g.quiet.held r.1 in
    record {
      reached = record { index = length texts; is = at ∙ ap Some (sym r.0); texts = texts; before = g.read };
      longer = subst (λ (f : List ℕ). IsLonger a.held f (MOST_TEXT_BYTES - total_length texts)) (sym r.0) (subst (λ (n : ℕ). IsLonger a.held file n) left here);
      taken = rose_by_all a.taken b.taken c.taken (total_length texts) room g.taken g.room_left r.2;
    }
stops a b c names others rest texts file room NoMemory is g r = tt
stops a b c names others rest texts file room e is g r = absurd r

-- a list has a text where it has a file
held_long : (held : Held) (fs ts : List (List ℕ)) → AreHeld held fs ts → length ts ≡ length fs
held_long held [] [] h = refl
held_long held [] (t ∷ ts) h = absurd h
held_long held (f ∷ fs) [] h = absurd h
held_long held (f ∷ fs) (t ∷ ts) h = omega (arith, held_long held fs ts h.1)

pub as_many : (held : Held) (names texts : List (List ℕ)) → AreTexts held names texts → length texts ≡ length names
as_many held names texts a = held_long held names texts a.held_so

-- a text that is none of a module is that of a file
pub refused_within : (held : Held) (names texts slice : List (List ℕ)) (r : TextsRefusal) (index : ℕ) (e : ModuleRefusal) →
    AreTexts held names texts → slice ≡ texts → r ≡ Module index e → AreRefusedBy slice r → index < length names
refused_within held names texts slice r index e a same is refused =
    let unread : IsUnread texts index e = subst (AreRefusedBy texts) is (subst (λ (ts : List (List ℕ)). AreRefusedBy ts r) same refused) in
    omega (arith, as_many held names texts a, unread_within texts index e unread)

-- each text is short enough to be read
pub short_texts : (held : Held) (names texts : List (List ℕ)) → AreTexts held names texts → All (λ t. length t ≤ MOST_TEXT_BYTES) texts
short_texts held names texts a = all_within MOST_TEXT_BYTES texts a.few
