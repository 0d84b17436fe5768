-- Going along descriptors, and along functions by their numbers.
use Rattle.std.proofs.Common.{◌≡◌, ℕ, zero, suc, ◌+◌, ◌<◌, ◌≤◌, List, [], ◌∷◌, ◌++◌, length, get_or, take, drop, map, Option, Some, None, sym, ap, subst, ◌∙◌, arith, inl, inr}
use Rattle.std.specs.Prelude.{◌⊎◌, slice_get}
use Rattle.std.specs.Option.{option_map}
use Rattle.std.proofs.lemmas.List.{drop_more, map-append, take_more}
use Rattle.std.proofs.lemmas.Option.{slice_get_cases}
use Rattle.beam_code.specs.declared.module.Function.{Function}
use Rattle.beam_code.specs.declared.module.Module.{Module}
use Rattle.beam_code.specs.Function.{Placed}
use Rattle.image_format.specs.declared.limits.TheConstants.{MOST_FRAME}
use Rattle.image_format.specs.declared.parts.Descriptor.{Descriptor}
use Rattle.image_format.specs.declared.parts.Native.{Native}
use Rattle.image_format.specs.Fitting.{DescriptorFits, after_descriptor}
use Rattle.image_format.specs.Spelling.{descriptor}
use Rattle.native_link.specs.Checking.{wrong_descriptor}
use Rattle.native_link.specs.Places.{wrong_field}
use Rattle.tagged_words.specs.Follow.{Follow}

pub frame_fits : (least : ℕ) (ds : List Descriptor) (i : ℕ) (d : Descriptor) → Follow DescriptorFits after_descriptor least ds → i < length ds → d ≡ get_or ds i d → d.frame ≤ MOST_FRAME
frame_fits least [] i d h lt e = absurd (omega arith)
frame_fits least (x ∷ ds) zero d h lt e = subst (λ (y : Descriptor). y.frame ≤ MOST_FRAME) (sym e) h.0.most
frame_fits least (x ∷ ds) (suc i) d h lt e = frame_fits (after_descriptor least x) ds i d h.1 (omega arith) e

-- behind a descriptor without a wrong field the others are looked at
pub next_descriptor : (natives : List Native) (ms : List Module) (ds : List Descriptor) (i at next : ℕ) (d : Descriptor) → i < length ds → d ≡ get_or ds i d → wrong_field natives ms d ≡ None
    → next ≡ at + length (descriptor d) → wrong_descriptor natives ms next (drop (i + 1) ds) ≡ wrong_descriptor natives ms at (drop i ds)
next_descriptor natives ms ds i at next d lt e none n =
    let behind : List Descriptor = drop (i + 1) ds in
    let rest : Option ℕ = wrong_descriptor natives ms (at + length (descriptor d)) behind in
    ap (λ m. wrong_descriptor natives ms m behind) n ∙ ap (λ (o : Option ℕ). elim o [ None ↦ rest | Some field ↦ Some (at + field) ]) (sym none)
    ∙ ap (wrong_descriptor natives ms at) (sym (drop_more ds i d lt ∙ ap (λ y. y ∷ behind) (sym e)))

some_is : {A : Type 0} (x y : A) → Some x ≡ Some y → x ≡ y
some_is x y e = cc

-- what is made of each function, in order of the numbers
pub one_function_more : (f : Function → ℕ) (ps : List Placed) (fid : ℕ) (g : Function) → fid < length ps → Some g ≡ option_map (λ p. p.function) (slice_get ps fid)
    → map (λ p. f p.function) (take (fid + 1) ps) ≡ map (λ p. f p.function) (take fid ps) ++ f g ∷ []
one_function_more f ps fid g lt e = go (slice_get_cases ps fid).1
  where
    made : Placed → ℕ
    made p = f p.function

    go : ((p : Placed) × (fid < length ps) × (slice_get ps fid ≡ Some p) × (get_or ps fid p ≡ p)) ⊎ ((length ps ≤ fid) × (slice_get ps fid ≡ None)) → map made (take (fid + 1) ps) ≡ map made (take fid ps) ++ f g ∷ []
    go (inl (p, low, is, at)) =
        let same : g ≡ p.function = some_is g p.function (e ∙ ap (option_map (λ (q : Placed). q.function)) is) in
        ap (map made) (take_more ps fid p lt) ∙ map-append made (take fid ps) (get_or ps fid p ∷ [])
        ∙ ap (λ x. map made (take fid ps) ++ x ∷ []) (ap made at ∙ ap f (sym same))
    go (inr (past, none)) = absurd (omega arith)

pub no_function : (ps : List Placed) (fid : ℕ) → fid < length ps → None ≡ option_map (λ (p : Placed). p.function) (slice_get ps fid) → ⊥
no_function ps fid lt e = go (slice_get_cases ps fid).1
  where
    go : ((p : Placed) × (fid < length ps) × (slice_get ps fid ≡ Some p) × (get_or ps fid p ≡ p)) ⊎ ((length ps ≤ fid) × (slice_get ps fid ≡ None)) → ⊥
    go (inl (p, low, is, at)) = absurd cc
    go (inr (past, none)) = absurd (omega arith)
