-- How many bytes the fields of an image take.
use Rattle.std.proofs.Common.{◌≡◌, ℕ, ◌+◌, ◌*◌, ◌<◌, ◌≤◌, List, [], ◌∷◌, ◌++◌, length, get_or, take, drop, refl, sym, ap, ◌∙◌, arith}
use Rattle.std.specs.Prelude.{replicate}
use Rattle.std.specs.List.{flat_map}
use Rattle.std.proofs.lemmas.List.{length-append, length-replicate, take_more, take-append-drop}
use Rattle.std.proofs.lemmas.List.Concat.{flat_map-append, flat_map-cons}
use Rattle.image_format.specs.declared.limits.TheConstants.{MAGIC, VERSION}
use Rattle.image_format.specs.declared.parts.Parts.{Parts}
use Rattle.image_format.specs.declared.parts.Descriptor.{Descriptor}
use Rattle.image_format.specs.declared.parts.Native.{Native}
use Rattle.image_format.proofs.Masks.{length_mask}
use Rattle.image_format.specs.Mask.{mask, mask_words}
use Rattle.native_link.specs.Checking.{before_atoms, before_descriptors, before_natives, before_roots, first_descriptor_offset}
use Rattle.image_format.specs.Spelling.{word, padding, text, counted, native, descriptor, kind_number, spelling}

length_word : (n : ℕ) → length (word n) ≡ 4
unfolding word
length_word n = refl

length_text : (t : List ℕ) → length (text t) ≡ 4 + length t + padding (length t)
length_text t = omega (arith, length-append (word (length t) ++ t) (replicate (padding (length t)) 0), length-append (word (length t)) t, length_word (length t), length-replicate {A = ℕ} (padding (length t)) 0)

more_items : {A : Type 0} (f : A → List ℕ) (xs : List A) (i : ℕ) (x : A) → i < length xs → x ≡ get_or xs i x → flat_map f (take (i + 1) xs) ≡ flat_map f (take i xs) ++ f x
more_items f xs i x lt e =
    ap (flat_map f) (take_more xs i x lt) ∙ flat_map-append f (take i xs) (get_or xs i x ∷ []) ∙ ap (λ l. flat_map f (take i xs) ++ l) (flat_map-cons f (get_or xs i x) [] ∙ append_none (f (get_or xs i x)) ∙ ap f (sym e))
  where
    append_none : (l : List ℕ) → l ++ [] ≡ l
    append_none [] = refl
    append_none (y ∷ l) = ap (λ (m : List ℕ). y ∷ m) (append_none l)

-- one more item: what the items take so far, and that it is within what all take
size_more : {A : Type 0} (f : A → List ℕ) (xs : List A) (i : ℕ) (x : A) → i < length xs → x ≡ get_or xs i x → length (flat_map f (take (i + 1) xs)) ≡ length (flat_map f (take i xs)) + length (f x)
size_more f xs i x lt e = ap length (more_items f xs i x lt e) ∙ length-append (flat_map f (take i xs)) (f x)

size_within : {A : Type 0} (f : A → List ℕ) (xs : List A) (i : ℕ) → length (flat_map f (take i xs)) ≤ length (flat_map f xs)
size_within f xs i =
    let parts : flat_map f xs ≡ flat_map f (take i xs) ++ flat_map f (drop i xs) = ap (flat_map f) (sym (take-append-drop i xs)) ∙ flat_map-append f (take i xs) (drop i xs) in
    omega (arith, ap length parts, length-append (flat_map f (take i xs)) (flat_map f (drop i xs)))

-- one more text
pub text_more : (xs : List (List ℕ)) (i : ℕ) (x : List ℕ) (len pad size : ℕ) → i < length xs → x ≡ get_or xs i x → len ≡ length x → pad ≡ padding len → size ≡ length (flat_map text (take i xs))
    → (size + (4 + len + pad) ≡ length (flat_map text (take (i + 1) xs))) × (size + (4 + len + pad) ≤ length (flat_map text xs))
text_more xs i x len pad size lt e l p so_far =
    let more = size_more text xs i x lt e in
    let zeros = p ∙ ap padding l in
    (omega (arith, more, length_text x, l, zeros, so_far), omega (arith, more, size_within text xs (i + 1), length_text x, l, zeros, so_far))

length_words : (ws : List ℕ) → length (flat_map word ws) ≡ 4 * length ws
length_words [] = refl
length_words (w ∷ ws) = omega (arith, ap length (flat_map-cons word w ws), length-append (word w) (flat_map word ws), length_word w, length_words ws)

length_native : (n : Native) → length (native n) ≡ 12
length_native n = omega (arith, length-append (word n.fid ++ word n.first) (word n.count), length-append (word n.fid) (word n.first), length_word n.fid, length_word n.first, length_word n.count)

length_natives : (ns : List Native) → length (flat_map native ns) ≡ 12 * length ns
length_natives [] = refl
length_natives (n ∷ ns) = omega (arith, ap length (flat_map-cons native n ns), length-append (native n) (flat_map native ns), length_native n, length_natives ns)

length_counted : {A : Type 0} (f : A → List ℕ) (xs : List A) → length (counted f xs) ≡ 4 + length (flat_map f xs)
length_counted f xs = omega (arith, length-append (word (length xs)) (flat_map f xs), length_word (length xs))

-- what stands before each list takes so many bytes
pub atoms_from : (p : Parts) → length (before_atoms p) ≡ 12 + length (flat_map text p.texts)
atoms_from p = omega (arith, length-append (word MAGIC ++ word VERSION) (counted text p.texts), length-append (word MAGIC) (word VERSION), length_word MAGIC, length_word VERSION, length_counted text p.texts)

pub roots_from : (p : Parts) → length (before_roots p) ≡ length (before_atoms p) + 8 + length (flat_map text p.atoms) + 4 * length p.literals
roots_from p =
    let h = before_atoms p in
    omega (
      arith,
      length-append (h ++ counted text p.atoms) (counted word p.literals),
      length-append h (counted text p.atoms),
      length_counted text p.atoms,
      length_counted word p.literals,
      length_words p.literals,
    )

pub natives_from : (p : Parts) → length (before_natives p) ≡ length (before_roots p) + 4 + 4 * length p.roots
natives_from p = omega (arith, length-append (before_roots p) (counted word p.roots), length_counted word p.roots, length_words p.roots)

pub descriptors_from : (p : Parts) → first_descriptor_offset p ≡ length (before_natives p) + 12 + 12 * length p.natives + 4 * length p.code
descriptors_from p =
    let h = before_natives p in
    omega (
      arith,
      length-append (h ++ counted native p.natives) (counted word p.code),
      length-append h (counted native p.natives),
      length_counted native p.natives,
      length_natives p.natives,
      length_counted word p.code,
      length_words p.code,
    )

-- and the whole image
pub all_bytes : (p : Parts) → length (spelling p) ≡ first_descriptor_offset p + length (flat_map descriptor p.descriptors)
all_bytes p = omega (arith, length-append (before_descriptors p) (counted descriptor p.descriptors), length_counted descriptor p.descriptors)

-- an image's parts are within it
pub within : (p : Parts) (most : ℕ) → length (spelling p) ≤ most
    → (12 + length (flat_map text p.texts) + 4 ≤ most) × (length (before_atoms p) + 8 + length (flat_map text p.atoms) + 4 * length p.literals + 4 ≤ most) × (length (before_roots p) + 4 + 4 * length p.roots + 4 ≤ most) × (length (before_natives p) + 12 + 12 * length p.natives + 4 * length p.code ≤ most)
within p most h =
    let a = atoms_from p in
    let r = roots_from p in
    let n = natives_from p in
    let d = descriptors_from p in
    let all = all_bytes p in
    (omega (arith, a, r, n, d, all, h), omega (arith, r, n, d, all, h), omega (arith, n, d, all, h), omega (arith, d, all, h))

length_descriptor : (d : Descriptor) → length (descriptor d) ≡ 24 + 4 * mask_words d.frame
length_descriptor d =
    let a = word d.ret in
    let b = word d.fid in
    let c = word d.item in
    let e = word d.frame in
    let k = word (kind_number d.kind) in
    let h = word d.handler in
    omega (
      arith,
      length-append (a ++ b ++ c ++ e ++ k ++ h) (flat_map word (mask d.frame d.live)),
      length-append (a ++ b ++ c ++ e ++ k) h,
      length-append (a ++ b ++ c ++ e) k,
      length-append (a ++ b ++ c) e,
      length-append (a ++ b) c,
      length-append a b,
      length_word d.ret,
      length_word d.fid,
      length_word d.item,
      length_word d.frame,
      length_word (kind_number d.kind),
      length_word d.handler,
      length_words (mask d.frame d.live),
      length_mask d.frame d.live,
    )

-- one more descriptor
pub descriptor_more : (ds : List Descriptor) (i : ℕ) (d : Descriptor) → i < length ds → d ≡ get_or ds i d
    → (length (descriptor d) ≡ 24 + 4 * mask_words d.frame) × (length (flat_map descriptor (take (i + 1) ds)) ≡ length (flat_map descriptor (take i ds)) + length (descriptor d))
    × (length (flat_map descriptor (take (i + 1) ds)) ≤ length (flat_map descriptor ds))
descriptor_more ds i d lt e = (length_descriptor d, size_more descriptor ds i d lt e, size_within descriptor ds (i + 1))
