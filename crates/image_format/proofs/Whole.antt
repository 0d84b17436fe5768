-- The two laws of an image: what is read is spelled so, and what is spelled so is read.
use Rattle.std.proofs.Common.{◌≡◌, ℕ, ◌-◌, ◌≤◌, List, [], ◌∷◌, ◌++◌, length, Option, None, Result, Ok, Err, refl, sym, ap, subst, ◌∙◌, append_assoc, arith}
use Rattle.std.specs.Prelude.{◌==◌, IfOk, OnOk}
use Rattle.std.specs.Global.{Vec}
use Rattle.std.specs.declared.alloc.AllocError.{AllocError}
use Rattle.std.specs.List.{flat_map, AllByRecursion}
use Rattle.std.proofs.lemmas.Bool.{eqb-true}
use Rattle.std.proofs.lemmas.List.{append-nil, nil_from_length}
use Rattle.beam_code.specs.declared.module.TheConstants.{MOST_TEXT_BYTES}
use Rattle.image_format.specs.declared.limits.TheConstants.{MAGIC, VERSION, MOST_MODULES, MOST_ATOMS, MOST_LITERALS, MOST_NATIVES, MOST_CODE, MOST_DESCRIPTORS}
use Rattle.image_format.specs.declared.parts.Parts.{Parts}
use Rattle.image_format.specs.declared.refusal.FormatRefusal.{FormatRefusal}
use Rattle.image_format.specs.declared.refusal.Flaw.TheVariants.{Magic, Version, Count, Value, Long}
use Rattle.image_format.specs.declared.refusal.Flaw.{Flaw}
use Rattle.tagged_words.specs.Atoms.{IsNew, and_atom}
use Rattle.image_format.specs.Fitting.{total_length, after_text, NativeFits, after_native, first_turn, total_count, DescriptorFits, after_descriptor, IsFitting, IsWord, IsName, IsSizedNative, IsSizedDescriptor, IsSized}
use Rattle.tagged_words.specs.Follow.{Follow}
use Rattle.image_format.specs.Cursor.{fault, Cursor, Read, ◌>>=◌, start, many_at, Gives}
use Rattle.image_format.specs.Reading.{number_at, text_at, atom_at, each_word, no_more, native_at, descriptor_at, list_at, parts_at, end_at, reading}
use Rattle.image_format.specs.Rules.{any, exactly, at_most, within, code_count}
use Rattle.image_format.specs.Spelling.{word, text, counted, native, descriptor, spelling}
use Rattle.image_format.proofs.Steps.{bind_case, test_ok, ok_is, neither, most_is, is_most, value_is, is_value, within_is, is_within}
use Rattle.image_format.proofs.Took.{IsBytes, Takes, took_then, took_same, Gets, gets_now, gets_then, many_take, many_again, follow-both, follow-rule, follow-size}
use Rattle.image_format.proofs.Fields.{Ruled, word_takes, word_again, number_takes, number_again}
use Rattle.image_format.proofs.Items.{TextFits, text_takes, text_again, AtomFits, atom_takes, atom_again, FitsNative, native_takes, native_again, FitsDescriptor, descriptor_takes, descriptor_again}

-- ---- a list behind its length

module _ {S A : Type 0} (item : S → Cursor → Read A) (next : S → A → S) (spell : A → List ℕ) (Fits : S → A → Type 0) where
  pub list_takes : ((s : S) (p : Cursor) (x : A × Cursor) → IsBytes p.rest → item s p ≡ Ok x → Takes spell (Fits s) p x)
      → (flaw : ℕ → Option Flaw) (s : S) (p : Cursor) (x : List A × Cursor) → IsBytes p.rest → list_at flaw item next s p ≡ Ok x → Takes (counted spell) (λ xs. Ruled flaw (length xs) × Follow Fits next s xs) p x
  unfolding list_at
  list_takes takes flaw s p x fits e =
      bind_case (number_at flaw p) (λ n. many_at item next n.0 s n.1) x e (λ n h0 e0.
      let a = number_takes flaw p n fits h0 in
      let b = many_take item next spell Fits takes n.0 s n.1 x a.0.fits e0 in
      let both = took_then p (word n.0) n.1 (flat_map spell x.0) x.1 a.0 b.0 in
      (took_same p (word n.0 ++ flat_map spell x.0) (counted spell x.0) x.1 (ap (λ k. word k ++ flat_map spell x.0) (sym b.1.0)) both, (subst (Ruled flaw) (sym b.1.0) a.1, b.1.1)))

  pub list_again : ((s : S) (p : Cursor) (x : A) (rest : List ℕ) → Fits s x → p.rest ≡ spell x ++ rest → Gets (item s p) x rest)
      → (flaw : ℕ → Option Flaw) (xs : List A) (s : S) (p : Cursor) (rest : List ℕ) → Ruled flaw (length xs) → Follow Fits next s xs → p.rest ≡ counted spell xs ++ rest → Gets (list_at flaw item next s p) xs rest
  unfolding list_at
  list_again again flaw xs s p rest h fits e =
      gets_then (number_at flaw p) (λ n. many_at item next n.0 s n.1) (length xs) (flat_map spell xs ++ rest) xs rest (number_again flaw (length xs) p (flat_map spell xs ++ rest) h (e ∙ append_assoc (word (length xs)) (flat_map spell xs) rest))
      (λ q left. many_again item next spell Fits again xs s q rest fits left)

abbrev pub EachWord : Unit {0} → ℕ → Type 0
EachWord s w = IsWord w

-- ---- what the lists say of the parts

total_from : (room : ℕ) (ts : List (List ℕ)) → Follow TextFits after_text room ts → total_length ts ≤ room
total_from room [] h = omega arith
total_from room (t ∷ ts) h = omega (arith, h.0.0, total_from (room - length t) ts h.1)

room_for : (room : ℕ) (ts : List (List ℕ)) → total_length ts ≤ room → IsWord room → Follow TextFits after_text room ts
room_for room [] h lt = tt
room_for room (t ∷ ts) h lt = ((omega (arith, h), omega (arith, h, lt)), room_for (room - length t) ts (omega (arith, h)) (omega (arith, lt)))

all_words : (ws : List ℕ) → Follow EachWord no_more tt ws → AllByRecursion IsWord ws
all_words [] h = tt
all_words (w ∷ ws) h = (h.0, all_words ws h.1)

each_of_words : (ws : List ℕ) → AllByRecursion IsWord ws → Follow EachWord no_more tt ws
each_of_words [] h = tt
each_of_words (w ∷ ws) h = (h.0, each_of_words ws h.1)

pub parts_take : (p : Cursor) (x : Parts × Cursor) → IsBytes p.rest → parts_at p ≡ Ok x → Takes spelling (λ ps. IsFitting ps × IsSized ps) p x
unfolding parts_at
parts_take p x fits e =
    bind_case _ _ x e (λ magic h0 e0.
    bind_case _ _ x e0 (λ version h1 e1.
    bind_case _ _ x e1 (λ texts h2 e2.
    bind_case _ _ x e2 (λ atoms h3 e3.
    bind_case _ _ x e3 (λ literals h4 e4.
    bind_case _ _ x e4 (λ roots h5 e5.
    bind_case _ _ x e5 (λ natives h6 e6.
    bind_case _ _ x e6 (λ code h7 e7.
    bind_case _ _ x e7 (λ descriptors h8 e8.
    let total = total_count natives.0 in
    let t0 = number_takes (exactly Magic MAGIC) p magic fits h0 in
    let t1 = number_takes (exactly Version VERSION) magic.1 version t0.0.fits h1 in
    let t2 = list_takes text_at after_text text TextFits text_takes (within Count 1 MOST_MODULES) MOST_TEXT_BYTES version.1 texts t1.0.fits h2 in
    let t3 = list_takes atom_at and_atom text AtomFits atom_takes (at_most Count MOST_ATOMS) [] texts.1 atoms t2.0.fits h3 in
    let t4 = list_takes each_word no_more word EachWord (λ s. word_takes) (at_most Count MOST_LITERALS) tt atoms.1 literals t3.0.fits h4 in
    let t5 = list_takes each_word no_more word EachWord (λ s. word_takes) any tt literals.1 roots t4.0.fits h5 in
    let t6 = list_takes native_at after_native native FitsNative native_takes (at_most Count MOST_NATIVES) first_turn roots.1 natives t5.0.fits h6 in
    let t7 = list_takes each_word no_more word EachWord (λ s. word_takes) (code_count total) tt natives.1 code t6.0.fits h7 in
    let t8 = list_takes descriptor_at after_descriptor descriptor FitsDescriptor descriptor_takes (at_most Count MOST_DESCRIPTORS) 0 code.1 descriptors t7.0.fits h8 in
    let u1 = took_then p _ magic.1 _ version.1 (took_same p _ _ magic.1 (ap word (value_is Magic MAGIC magic.0 t0.1.0)) t0.0) (took_same magic.1 _ _ version.1 (ap word (value_is Version VERSION version.0 t1.1.0)) t1.0) in
    let u2 = took_then p _ version.1 _ texts.1 u1 t2.0 in
    let u3 = took_then p _ texts.1 _ atoms.1 u2 t3.0 in
    let u4 = took_then p _ atoms.1 _ literals.1 u3 t4.0 in
    let u5 = took_then p _ literals.1 _ roots.1 u4 t5.0 in
    let u6 = took_then p _ roots.1 _ natives.1 u5 t6.0 in
    let u7 = took_then p _ natives.1 _ code.1 u6 t7.0 in
    let u8 = took_then p _ code.1 _ descriptors.1 u7 t8.0 in
    let modules = within_is Count 1 MOST_MODULES (length texts.0) t2.1.0.0 in
    let words = neither (at_most Count MOST_CODE (length code.0)) (exactly Value total (length code.0)) t7.1.0.0 in
    let fitting : IsFitting (record { texts = texts.0; atoms = atoms.0; literals = literals.0; roots = roots.0; natives = natives.0; code = code.0; descriptors = descriptors.0 }) = record {
      some_module = modules.0;
      modules = modules.1;
      text_bytes = total_from MOST_TEXT_BYTES texts.0 t2.1.1;
      atoms = most_is Count MOST_ATOMS (length atoms.0) t3.1.0.0;
      distinct = follow-rule IsNew IsName and_atom [] atoms.0 t3.1.1;
      literals = most_is Count MOST_LITERALS (length literals.0) t4.1.0.0;
      roots = t5.1.0.1;
      natives = most_is Count MOST_NATIVES (length natives.0) t6.1.0.0;
      native_places = follow-rule NativeFits IsSizedNative after_native first_turn natives.0 t6.1.1;
      code = most_is Count MOST_CODE (length code.0) words.0;
      code_of_natives = value_is Value total (length code.0) words.1;
      descriptors = most_is Count MOST_DESCRIPTORS (length descriptors.0) t8.1.0.0;
      sites = follow-rule DescriptorFits IsSizedDescriptor after_descriptor 0 descriptors.0 t8.1.1;
    } in
    let sized : IsSized (record { texts = texts.0; atoms = atoms.0; literals = literals.0; roots = roots.0; natives = natives.0; code = code.0; descriptors = descriptors.0 }) = record {
      atoms = follow-size IsNew IsName and_atom [] atoms.0 t3.1.1;
      literals = all_words literals.0 t4.1.1;
      roots = all_words roots.0 t5.1.1;
      natives = follow-size NativeFits IsSizedNative after_native first_turn natives.0 t6.1.1;
      code = all_words code.0 t7.1.1;
      descriptors = follow-size DescriptorFits IsSizedDescriptor after_descriptor 0 descriptors.0 t8.1.1;
    } in
    subst (λ (y : Parts × Cursor). Takes spelling (λ ps. IsFitting ps × IsSized ps) p y) (ok_is _ x e8) (u8, (fitting, sized)))))))))))

-- a count within its limit is a word that keeps its rule
count_fits : (most n : ℕ) → n ≤ most → IsWord most → Ruled (at_most Count most) n
count_fits most n h lt = (is_most Count most n h, omega (arith, h, lt))

pub parts_again : (p : Cursor) (ps : Parts) (rest : List ℕ) → IsFitting ps → IsSized ps → p.rest ≡ spelling ps ++ rest → Gets (parts_at p) ps rest
unfolding parts_at
parts_again p ps rest f z e =
    let r8 = counted descriptor ps.descriptors ++ rest in
    let r7 = counted word ps.code ++ r8 in
    let r6 = counted native ps.natives ++ r7 in
    let r5 = counted word ps.roots ++ r6 in
    let r4 = counted word ps.literals ++ r5 in
    let r3 = counted text ps.atoms ++ r4 in
    let r2 = counted text ps.texts ++ r3 in
    let r1 = word VERSION ++ r2 in
    let h2 = word MAGIC ++ word VERSION ++ counted text ps.texts in
    let h5 = h2 ++ counted text ps.atoms ++ counted word ps.literals ++ counted word ps.roots in
    let parts : p.rest ≡ word MAGIC ++ r1 = e
    ∙ append_assoc (h5 ++ counted native ps.natives ++ counted word ps.code) (counted descriptor ps.descriptors) rest
    ∙ append_assoc (h5 ++ counted native ps.natives) (counted word ps.code) r8
    ∙ append_assoc h5 (counted native ps.natives) r7
    ∙ append_assoc (h2 ++ counted text ps.atoms ++ counted word ps.literals) (counted word ps.roots) r6
    ∙ append_assoc (h2 ++ counted text ps.atoms) (counted word ps.literals) r5
    ∙ append_assoc h2 (counted text ps.atoms) r4
    ∙ append_assoc (word MAGIC ++ word VERSION) (counted text ps.texts) r3
    ∙ append_assoc (word MAGIC) (word VERSION) r2 in
    let modules : within Count 1 MOST_MODULES (length ps.texts) ≡ None = is_within Count 1 MOST_MODULES (length ps.texts) f.some_module f.modules in
    let words : code_count (total_count ps.natives) (length ps.code) ≡ None = rw (is_most Count MOST_CODE (length ps.code) f.code, is_value Value (total_count ps.natives) (length ps.code) f.code_of_natives) refl in
    gets_then _ _ MAGIC r1 ps rest (number_again (exactly Magic MAGIC) MAGIC p r1 (is_value Magic MAGIC MAGIC refl, omega arith) parts) (λ q0 l0.
    gets_then _ _ VERSION r2 ps rest (number_again (exactly Version VERSION) VERSION q0 r2 (is_value Version VERSION VERSION refl, omega arith) l0) (λ q1 l1.
    gets_then _ _ ps.texts r3 ps rest (list_again text_at after_text text TextFits text_again (within Count 1 MOST_MODULES) ps.texts MOST_TEXT_BYTES q1 r3 (modules, omega (arith, f.modules)) (room_for MOST_TEXT_BYTES ps.texts f.text_bytes (omega arith)) l1) (λ q2 l2.
    gets_then _ _ ps.atoms r4 ps rest (list_again atom_at and_atom text AtomFits atom_again (at_most Count MOST_ATOMS) ps.atoms [] q2 r4 (count_fits MOST_ATOMS (length ps.atoms) f.atoms (omega arith)) (follow-both IsNew IsName and_atom [] ps.atoms f.distinct z.atoms) l2) (λ q3 l3.
    gets_then _ _ ps.literals r5 ps rest (list_again each_word no_more word EachWord (λ s p w more. word_again w p more) (at_most Count MOST_LITERALS) ps.literals tt q3 r5 (count_fits MOST_LITERALS (length ps.literals) f.literals (omega arith)) (each_of_words ps.literals z.literals) l3) (λ q4 l4.
    gets_then _ _ ps.roots r6 ps rest (list_again each_word no_more word EachWord (λ s p w more. word_again w p more) any ps.roots tt q4 r6 (refl, f.roots) (each_of_words ps.roots z.roots) l4) (λ q5 l5.
    gets_then _ _ ps.natives r7 ps rest (list_again native_at after_native native FitsNative native_again (at_most Count MOST_NATIVES) ps.natives first_turn q5 r7 (count_fits MOST_NATIVES (length ps.natives) f.natives (omega arith)) (follow-both NativeFits IsSizedNative after_native first_turn ps.natives f.native_places z.natives) l5) (λ q6 l6.
    gets_then _ _ ps.code r8 ps rest (list_again each_word no_more word EachWord (λ s p w more. word_again w p more) (code_count (total_count ps.natives)) ps.code tt q6 r8 (words, omega (arith, f.code)) (each_of_words ps.code z.code) l6) (λ q7 l7.
    gets_then _ _ ps.descriptors rest ps rest (list_again descriptor_at after_descriptor descriptor FitsDescriptor descriptor_again (at_most Count MOST_DESCRIPTORS) ps.descriptors 0 q7 rest (count_fits MOST_DESCRIPTORS (length ps.descriptors) f.descriptors (omega arith)) (follow-both DescriptorFits IsSizedDescriptor after_descriptor 0 ps.descriptors f.sites z.descriptors) l7) (λ q8 l8.
    gets_now ps q8 rest l8)))))))))

-- ---- all of the bytes

pub reading_takes : (bytes : List ℕ) (ps : Parts) → IsBytes bytes → reading bytes ≡ Ok ps → IsFitting ps × IsSized ps × (bytes ≡ spelling ps)
unfolding reading end_at
reading_takes bytes ps fits e =
    bind_case (parts_at (start bytes)) (λ x. end_at x.1 >>= λ end. Ok x.0) ps e (λ x h0 e0.
    bind_case (end_at x.1) (λ end. Ok x.0) ps e0 (λ end h1 e1.
    let t = parts_take (start bytes) x fits h0 in
    let g = test_ok (length x.1.rest == 0) (fault Long x.1) tt end h1 in
    let nothing : x.1.rest ≡ [] = nil_from_length x.1.rest (eqb-true _ _ g.0) in
    let whole : bytes ≡ spelling x.0 = t.0.parts ∙ ap (λ (l : List ℕ). spelling x.0 ++ l) nothing ∙ append-nil (spelling x.0) in
    subst (λ (y : Parts). IsFitting y × IsSized y × (bytes ≡ spelling y)) (ok_is x.0 ps e1) (t.1.0, t.1.1, whole)))

pub reading_again : (ps : Parts) → IsFitting ps → IsSized ps → reading (spelling ps) ≡ Ok ps
unfolding reading end_at
reading_again ps f z =
    let g = parts_again (start (spelling ps)) ps [] f z (sym (append-nil (spelling ps))) in
    rw (g.is, g.left) refl

pub is_found : (bytes : List ℕ) (r : Result Parts FormatRefusal) → IsBytes bytes → Gives (λ ps. ps) r (reading bytes) → IfOk r (λ ps. IsFitting ps × IsSized ps × (bytes ≡ spelling ps))
is_found bytes (Ok ps) fits given = reading_takes bytes ps fits given
is_found bytes (Err e) fits given = tt

pub is_read : (r : Result (Vec ℕ) AllocError) (ps : Parts) → IsFitting ps → IfOk r (λ b. b.items ≡ spelling ps) → OnOk r (IsSized ps) → IfOk r (λ b. reading b.items ≡ Ok ps)
is_read (Ok b) ps f spelled sized = ap reading spelled ∙ reading_again ps f sized
is_read (Err e) ps f spelled sized = tt
