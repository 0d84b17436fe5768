-- Texts, atoms, native functions and descriptors that are read are those that were written, and are read again.
use Rattle.std.proofs.Common.{◌≡◌, ℕ, ◌≤◌, ltb, List, ◌++◌, length, None, Ok, refl, sym, ap, subst, ◌∙◌, append_assoc, arith}
use Rattle.std.specs.Prelude.{replicate, ◌&&◌, not}
use Rattle.std.specs.List.{flat_map}
use Rattle.std.specs.Str.{is_utf8}
use Rattle.std.proofs.lemmas.Bool.{ltb-false}
use Rattle.std.proofs.lemmas.Str.{IsUtf8-from_is_utf8}
use Rattle.term_tree.specs.Name.{is_name, characters_in}
use Rattle.term_tree.specs.declared.name.TheConstants.{MOST_CHARACTERS}
use Rattle.image_format.specs.declared.limits.TheConstants.{MOST_FRAME}
use Rattle.image_format.specs.declared.parts.Native.{Native}
use Rattle.image_format.specs.declared.parts.Descriptor.{Descriptor}
use Rattle.image_format.specs.declared.refusal.Flaw.TheVariants.{Count, Value, Order}
use Rattle.tagged_words.specs.Atoms.{IsNew, is_among}
use Rattle.image_format.specs.Fitting.{IsName, IsWord, Turn, NativeFits, IsSizedNative, DescriptorFits, IsSizedDescriptor, is_handler}
use Rattle.image_format.specs.Mask.{mask_words, Ascends, mask, live_slots}
use Rattle.image_format.specs.Cursor.{Cursor, ◌>>=◌, kept, many_at}
use Rattle.image_format.specs.Reading.{word_at, number_at, bytes_at, text_at, atom_at, native_at, mask_at, after_mask, masks_at, live_at, descriptor_at}
use Rattle.image_format.specs.Rules.{at_most, at_least, exactly, within, handler_of, new_name, mask_word}
use Rattle.image_format.specs.Spelling.{word, padding, text, native, descriptor}
use Rattle.image_format.proofs.Masks.{MaskFits, words_again, slots_ascend, mask_fits, length_mask, slots_again}
use Rattle.image_format.proofs.Steps.{bind_case, kept_ok, both_true, not_false, ok_is, passed, most_is, is_most, least_is, is_least, value_is, is_value, within_is, is_within}
use Rattle.image_format.proofs.Took.{IsBytes, Takes, took_then, took_same, Gets, gets_same, gets_now, gets_then, many_take, many_again}
use Rattle.image_format.proofs.Widths.{length_of_text}
use Rattle.image_format.proofs.Fields.{word_takes, word_again, number_takes, number_again, kind_text, kind_takes, kind_again, padded, bytes_takes, bytes_again}

-- ---- texts

text_parts : (b : List ℕ) → text b ≡ word (length b) ++ padded b
text_parts b = append_assoc (word (length b)) b (replicate (padding (length b)) 0)

abbrev pub TextFits : ℕ → List ℕ → Type 0
TextFits room t = (length t ≤ room) × IsWord (length t)

pub text_takes : (room : ℕ) (p : Cursor) (x : List ℕ × Cursor) → IsBytes p.rest → text_at room p ≡ Ok x → Takes text (TextFits room) p x
unfolding text_at
text_takes room p x fits e =
    bind_case (number_at (at_most Count room) p) (λ n. bytes_at n.0 n.1) x e (λ n h0 e0.
    let a = number_takes (at_most Count room) p n fits h0 in
    let b = bytes_takes n.0 n.1 x a.0.fits e0 in
    let both = took_then p (word n.0) n.1 (padded x.0) x.1 a.0 b.0 in
    (took_same p (word n.0 ++ padded x.0) (text x.0) x.1 (ap (λ k. word k ++ padded x.0) (sym b.1) ∙ sym (text_parts x.0)) both, (omega (arith, most_is Count room n.0 a.1.0, b.1), omega (arith, a.1.1, b.1))))

pub text_again : (room : ℕ) (p : Cursor) (t : List ℕ) (rest : List ℕ) → TextFits room t → p.rest ≡ text t ++ rest → Gets (text_at room p) t rest
unfolding text_at
text_again room p t rest h e =
    let parts : p.rest ≡ word (length t) ++ (padded t ++ rest) = e ∙ ap (λ (l : List ℕ). l ++ rest) (text_parts t) ∙ append_assoc (word (length t)) (padded t) rest in
    gets_then (number_at (at_most Count room) p) (λ n. bytes_at n.0 n.1) (length t) (padded t ++ rest) t rest
    (number_again (at_most Count room) (length t) p (padded t ++ rest) (is_most Count room (length t) h.0, h.1) parts) (λ q left. bytes_again t q rest left)

-- ---- atoms

abbrev pub AtomFits : List (List ℕ) → List ℕ → Type 0
AtomFits earlier a = IsNew earlier a × IsName a

pub new_is : (earlier : List (List ℕ)) (a : List ℕ) → new_name earlier a ≡ None → AtomFits earlier a
new_is earlier a e = let t = both_true (is_name a) (not (is_among a earlier)) (passed (is_name a && not (is_among a earlier)) Value e) in (not_false (is_among a earlier) t.1, t.0)

pub atom_takes : (earlier : List (List ℕ)) (p : Cursor) (x : List ℕ × Cursor) → IsBytes p.rest → atom_at earlier p ≡ Ok x → Takes text (AtomFits earlier) p x
unfolding atom_at
atom_takes earlier p x fits e =
    bind_case (word_at p) (λ n. bytes_at n.0 n.1 >>= λ b. kept (new_name earlier b.0) n.1 b) x e (λ n h0 e0.
    bind_case (bytes_at n.0 n.1) (λ b. kept (new_name earlier b.0) n.1 b) x e0 (λ b h1 e1.
    let k = kept_ok (new_name earlier b.0) n.1 b x e1 in
    let a = word_takes p n fits h0 in
    let c = bytes_takes n.0 n.1 b a.0.fits h1 in
    let both = took_then p (word n.0) n.1 (padded b.0) b.1 a.0 c.0 in
    let whole = took_same p (word n.0 ++ padded b.0) (text b.0) b.1 (ap (λ k. word k ++ padded b.0) (sym c.1) ∙ sym (text_parts b.0)) both in
    subst (Takes text (AtomFits earlier) p) k.1 (whole, new_is earlier b.0 k.0)))

name_length : (a : List ℕ) → IsName a → IsWord (length a)
name_length a h =
    let t = both_true (is_utf8 a) (not (ltb MOST_CHARACTERS (characters_in a))) h in
    omega (arith, length_of_text a (IsUtf8-from_is_utf8 a t.0), ltb-false MOST_CHARACTERS (characters_in a) (not_false (ltb MOST_CHARACTERS (characters_in a)) t.1))

pub atom_again : (earlier : List (List ℕ)) (p : Cursor) (a : List ℕ) (rest : List ℕ) → AtomFits earlier a → p.rest ≡ text a ++ rest → Gets (atom_at earlier p) a rest
unfolding atom_at
atom_again earlier p a rest h e =
    let parts : p.rest ≡ word (length a) ++ (padded a ++ rest) = e ∙ ap (λ (l : List ℕ). l ++ rest) (text_parts a) ∙ append_assoc (word (length a)) (padded a) rest in
    let new : new_name earlier a ≡ None = rw (h.1, h.0) refl in
    gets_then (word_at p) (λ n. bytes_at n.0 n.1 >>= λ b. kept (new_name earlier b.0) n.1 b) (length a) (padded a ++ rest) a rest (word_again (length a) p (padded a ++ rest) (name_length a h.1) parts)
    (λ q left. gets_then (bytes_at (length a) q) (λ b. kept (new_name earlier b.0) q b) a rest a rest (bytes_again a q rest left)
    (λ r end. gets_same (Ok (a, r)) (kept (new_name earlier a) q (a, r)) a rest (ap (λ o. kept o q (a, r)) new) (gets_now a r rest end)))

-- ---- native functions

abbrev pub FitsNative : Turn → Native → Type 0
FitsNative t n = NativeFits t n × IsSizedNative n

pub native_takes : (t : Turn) (p : Cursor) (x : Native × Cursor) → IsBytes p.rest → native_at t p ≡ Ok x → Takes native (FitsNative t) p x
unfolding native_at
native_takes t p x fits e =
    bind_case _ _ x e (λ fid h0 e0.
    bind_case _ _ x e0 (λ first h1 e1.
    bind_case _ _ x e1 (λ count h2 e2.
    let a = number_takes (at_least Order t.least) p fid fits h0 in
    let b = number_takes (exactly Value t.place) fid.1 first a.0.fits h1 in
    let c = number_takes (at_least Value 1) first.1 count b.0.fits h2 in
    let ab = took_then p (word fid.0) fid.1 (word first.0) first.1 a.0 b.0 in
    let abc = took_then p (word fid.0 ++ word first.0) first.1 (word count.0) count.1 ab c.0 in
    let made : Native × Cursor = (record { fid = fid.0; first = first.0; count = count.0 }, count.1) in
    subst (λ (y : Native × Cursor). Takes native (FitsNative t) p y) (ok_is made x e2)
    (abc, (record { ascends = least_is Order t.least fid.0 a.1.0; place = value_is Value t.place first.0 b.1.0; some = least_is Value 1 count.0 c.1.0 }, record { fid = a.1.1; first = b.1.1; count = c.1.1 })))))

pub native_again : (t : Turn) (p : Cursor) (n : Native) (rest : List ℕ) → FitsNative t n → p.rest ≡ native n ++ rest → Gets (native_at t p) n rest
unfolding native_at
native_again t p n rest h e =
    let parts : p.rest ≡ word n.fid ++ (word n.first ++ (word n.count ++ rest)) = e ∙ append_assoc (word n.fid ++ word n.first) (word n.count) rest ∙ append_assoc (word n.fid) (word n.first) (word n.count ++ rest) in
    gets_then _ _ n.fid (word n.first ++ (word n.count ++ rest)) n rest (number_again (at_least Order t.least) n.fid p (word n.first ++ (word n.count ++ rest)) (is_least Order t.least n.fid h.0.ascends, h.1.fid) parts) (λ q0 l0.
    gets_then _ _ n.first (word n.count ++ rest) n rest (number_again (exactly Value t.place) n.first q0 (word n.count ++ rest) (is_value Value t.place n.first h.0.place, h.1.first) l0) (λ q1 l1.
    gets_then _ _ n.count rest n rest (number_again (at_least Value 1) n.count q1 rest (is_least Value 1 n.count h.0.some, h.1.count) l1) (λ q2 l2.
    gets_now n q2 rest l2)))

-- ---- live slots

abbrev pub mask_text : ℕ → List ℕ → List ℕ
mask_text frame ss = flat_map word (mask frame ss)

pub live_takes : (frame : ℕ) (p : Cursor) (x : List ℕ × Cursor) → IsBytes p.rest → live_at frame p ≡ Ok x → Takes (mask_text frame) (Ascends 1 frame) p x
unfolding live_at
live_takes frame p x fits e =
    bind_case (masks_at frame p) (λ words. Ok (live_slots words.0, words.1)) x e (λ words h0 e0.
    let t = many_take (mask_at frame) after_mask word (MaskFits frame) (λ k q y. number_takes (mask_word frame k) q y) (mask_words frame) 0 p words fits h0 in
    let back = words_again frame words.0 t.1.0 t.1.1 in
    subst (Takes (mask_text frame) (Ascends 1 frame) p) (ok_is (live_slots words.0, words.1) x e0)
    (took_same p (flat_map word words.0) (mask_text frame (live_slots words.0)) words.1 (ap (flat_map word) (sym back)) t.0, slots_ascend frame words.0 t.1.1))

pub live_again : (frame : ℕ) (p : Cursor) (ss rest : List ℕ) → Ascends 1 frame ss → p.rest ≡ mask_text frame ss ++ rest → Gets (live_at frame p) ss rest
unfolding live_at
live_again frame p ss rest h e =
    let words = mask frame ss in
    let read = many_again (mask_at frame) after_mask word (MaskFits frame) (λ k q w more. number_again (mask_word frame k) w q more) words 0 p rest (mask_fits frame ss (mask_words frame) 0 h) e in
    gets_then (masks_at frame p) (λ ws. Ok (live_slots ws.0, ws.1)) words rest ss rest (subst (λ n. Gets (many_at (mask_at frame) after_mask n 0 p) words rest) (length_mask frame ss) read)
    (λ q left. gets_same (Ok (ss, q)) (Ok (live_slots words, q)) ss rest (ap (λ (l : List ℕ). Ok (l, q)) (slots_again frame ss h)) (gets_now ss q rest left))

-- ---- descriptors

abbrev pub FitsDescriptor : ℕ → Descriptor → Type 0
FitsDescriptor least d = DescriptorFits least d × IsSizedDescriptor d

pub descriptor_takes : (least : ℕ) (p : Cursor) (x : Descriptor × Cursor) → IsBytes p.rest → descriptor_at least p ≡ Ok x → Takes descriptor (FitsDescriptor least) p x
unfolding descriptor_at
descriptor_takes least p x fits e =
    bind_case _ _ x e (λ ret h0 e0.
    bind_case _ _ x e0 (λ fid h1 e1.
    bind_case _ _ x e1 (λ item h2 e2.
    bind_case _ _ x e2 (λ frame h3 e3.
    bind_case _ _ x e3 (λ kind h4 e4.
    bind_case _ _ x e4 (λ handler h5 e5.
    bind_case _ _ x e5 (λ live h6 e6.
    let t0 = number_takes (at_least Order least) p ret fits h0 in
    let t1 = word_takes ret.1 fid t0.0.fits h1 in
    let t2 = word_takes fid.1 item t1.0.fits h2 in
    let t3 = number_takes (within Value 1 MOST_FRAME) item.1 frame t2.0.fits h3 in
    let t4 = kind_takes frame.1 kind t3.0.fits h4 in
    let t5 = number_takes (handler_of kind.0) kind.1 handler t4.0.fits h5 in
    let t6 = live_takes frame.0 handler.1 live t5.0.fits h6 in
    let u1 = took_then p _ ret.1 _ fid.1 t0.0 t1.0 in
    let u2 = took_then p _ fid.1 _ item.1 u1 t2.0 in
    let u3 = took_then p _ item.1 _ frame.1 u2 t3.0 in
    let u4 = took_then p _ frame.1 _ kind.1 u3 t4.0 in
    let u5 = took_then p _ kind.1 _ handler.1 u4 t5.0 in
    let u6 = took_then p _ handler.1 _ live.1 u5 t6.0 in
    let size = within_is Value 1 MOST_FRAME frame.0 t3.1.0 in
    let rules : DescriptorFits least (record { ret = ret.0; fid = fid.0; item = item.0; frame = frame.0; kind = kind.0; handler = handler.0; live = live.0 }) =
    record {
      ascends = least_is Order least ret.0 t0.1.0;
      some = size.0;
      most = size.1;
      handler = passed (is_handler kind.0 handler.0) Value t5.1.0;
      live = t6.1;
    } in
    subst (λ (y : Descriptor × Cursor). Takes descriptor (FitsDescriptor least) p y) (ok_is _ x e6) (u6, (rules, record { ret = t0.1.1; fid = t1.1; item = t2.1; handler = t5.1.1 })))))))))

pub descriptor_again : (least : ℕ) (p : Cursor) (d : Descriptor) (rest : List ℕ) → FitsDescriptor least d → p.rest ≡ descriptor d ++ rest → Gets (descriptor_at least p) d rest
unfolding descriptor_at
descriptor_again least p d rest h e =
    let r6 = mask_text d.frame d.live ++ rest in
    let r5 = word d.handler ++ r6 in
    let r4 = kind_text d.kind ++ r5 in
    let r3 = word d.frame ++ r4 in
    let r2 = word d.item ++ r3 in
    let r1 = word d.fid ++ r2 in
    let parts : p.rest ≡ word d.ret ++ r1 = e
    ∙ append_assoc (word d.ret ++ word d.fid ++ word d.item ++ word d.frame ++ kind_text d.kind ++ word d.handler) (mask_text d.frame d.live) rest
    ∙ append_assoc (word d.ret ++ word d.fid ++ word d.item ++ word d.frame ++ kind_text d.kind) (word d.handler) r6
    ∙ append_assoc (word d.ret ++ word d.fid ++ word d.item ++ word d.frame) (kind_text d.kind) r5
    ∙ append_assoc (word d.ret ++ word d.fid ++ word d.item) (word d.frame) r4
    ∙ append_assoc (word d.ret ++ word d.fid) (word d.item) r3
    ∙ append_assoc (word d.ret) (word d.fid) r2 in
    let size : within Value 1 MOST_FRAME d.frame ≡ None = is_within Value 1 MOST_FRAME d.frame h.0.some h.0.most in
    gets_then _ _ d.ret r1 d rest (number_again (at_least Order least) d.ret p r1 (is_least Order least d.ret h.0.ascends, h.1.ret) parts) (λ q0 l0.
    gets_then _ _ d.fid r2 d rest (word_again d.fid q0 r2 h.1.fid l0) (λ q1 l1.
    gets_then _ _ d.item r3 d rest (word_again d.item q1 r3 h.1.item l1) (λ q2 l2.
    gets_then _ _ d.frame r4 d rest (number_again (within Value 1 MOST_FRAME) d.frame q2 r4 (size, omega (arith, h.0.most)) l2) (λ q3 l3.
    gets_then _ _ d.kind r5 d rest (kind_again d.kind q3 r5 l3) (λ q4 l4.
    gets_then _ _ d.handler r6 d rest (number_again (handler_of d.kind) d.handler q4 r6 (rw h.0.handler refl, h.1.handler) l4) (λ q5 l5.
    gets_then _ _ d.live rest d rest (live_again d.frame q5 d.live rest h.0.live l5) (λ q6 l6.
    gets_now d q6 rest l6)))))))
