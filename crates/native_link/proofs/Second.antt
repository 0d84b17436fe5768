-- The second pass: what it answers.
use Rattle.std.proofs.Common.{◌≡◌, ℕ, ◌<◌, ◌≤◌, List, [], ◌∷◌, length, Result, Ok, Err, All, refl, sym, ap, subst, ◌∙◌, arith, inl, inr}
use Rattle.std.specs.List.{AllByRecursion}
use Rattle.std.proofs.lemmas.List.Elements.{All-from_recursion}
use Rattle.beam_code.specs.declared.module.Module.{Module}
use Rattle.image_format.proofs.Steps.{bind_case}
use Rattle.image_format.specs.declared.parts.Parts.{Parts}
use Rattle.image_format.specs.declared.refusal.FormatRefusal.{FormatRefusal}
use Rattle.image_format.specs.declared.refusal.FormatRefusal.TheVariants as format
use Rattle.image_format.specs.Cursor.{FieldFault, Fails, ◌>>=◌}
use Rattle.image_format.specs.Fitting.{IsFitting, IsSized, total_length}
use Rattle.image_format.specs.Reading.{reading}
use Rattle.image_format.specs.Spelling.{spelling}
use Rattle.native_link.specs.declared.refusal.ImageRefusal.{ImageRefusal}
use Rattle.native_link.specs.declared.refusal.ImageRefusal.TheVariants as image
use Rattle.beam_profile.specs.declared.refusal.ModuleRefusal.{ModuleRefusal}
use Rattle.module_texts.specs.Texts.{AreModulesOf, AreProfiled, IsOutBy, IsUnread}
use Rattle.std.proofs.lemmas.Option.{slice_get_within}
use Rattle.image_format.proofs.Whole.{reading_again}
use Rattle.module_check.proofs.Refusing.{only_memory}
use Rattle.module_check.specs.declared.refusal.CheckRefusal.{CheckRefusal}
use Rattle.module_check.specs.declared.refusal.CheckRefusal.TheVariants as check
use Rattle.module_texts.proofs.Lists.{none_unread, one_list}
use Rattle.native_link.specs.Checking.{Linked, linked, checking, checked_image}
use Rattle.native_link.specs.Laws.{ThePartsAreReadAgain}
use Rattle.native_link.specs.Image.{Answers, Built, IsReadAs, Readable, at_field, of_format}

each_within : (most : ℕ) (ts : List (List ℕ)) → total_length ts ≤ most → AllByRecursion (λ t. length t ≤ most) ts
each_within most [] h = tt
each_within most (t ∷ ts) h = (omega arith, each_within most ts (omega arith))

pub all_within : (most : ℕ) (ts : List (List ℕ)) → total_length ts ≤ most → All (λ t. length t ≤ most) ts
all_within most ts h = All-from_recursion (λ t. length t ≤ most) ts (each_within most ts h)

-- a fault of the first pass
pub first_fault : (bytes : List ℕ) (e : FormatRefusal) → Fails e (reading bytes) → Answers bytes (Err (of_format e))
first_fault bytes (format.Field flaw offset) h = inl h
first_fault bytes (format.Memory e) h = tt

-- no modules
pub unbuilt : (bytes : List ℕ) (p : Parts) (e : ImageRefusal) → reading bytes ≡ Ok p → Built (Err e) p → Answers bytes (Err e)
unbuilt bytes p (image.Field flaw offset) r h = absurd h
unbuilt bytes p (image.Module index e) r h = (p, r, h)
unbuilt bytes p (image.Check c) r h = (p, r, h)
unbuilt bytes p (image.Memory e) r h = tt

checked_fault : (p : Parts) (ms : List Module) (e : FieldFault) → checked_image p ms ≡ Err e → checking p ms ≡ Err e
checked_fault p ms e h = go (checking p ms) h
  where
    go : (c : Result (Unit {0}) FieldFault) → (c >>= λ done. Ok (linked p ms)) ≡ Err e → c ≡ Err e
    go (Ok u) h = absurd cc
    go (Err f) h = cc

-- what the modules ask for in vain
pub second_fault : (bytes : List ℕ) (p : Parts) (ms : List Module) (e : FormatRefusal) → Readable bytes p ms → Fails e (checked_image p ms) → Answers bytes (Err (of_format e))
second_fault bytes p ms (format.Field flaw offset) r h = inr (record { parts = p; modules = ms; read = r; is = checked_fault p ms _ h })
second_fault bytes p ms (format.Memory e) r h = tt

done : {A : Type 0} (x y : A) (e : Result A FieldFault) → e ≡ Ok x → e ≡ Ok y → x ≡ y
done x y e a b = cc

-- the image that was checked is that of the parts and the modules
checked_is : (p : Parts) (ms : List Module) (i : Linked) → checked_image p ms ≡ Ok i → (linked p ms ≡ i) × (checking p ms ≡ Ok tt)
checked_is p ms i h = bind_case (checking p ms) (λ done. Ok (linked p ms)) i h (λ u e f. (done (linked p ms) i (Ok (linked p ms)) refl f, e))

pub readable : (bytes : List ℕ) (p : Parts) (ms : List Module) → reading bytes ≡ Ok p → Built (Ok ms) p → Readable bytes p ms
readable bytes p ms read built = record { parts = read; profiled = built }

pub image_answer : (bytes : List ℕ) (p : Parts) (ms : List Module) (i : Linked) → Readable bytes p ms → checked_image p ms ≡ Ok i → Answers bytes (Ok i)
image_answer bytes p ms i read given =
    let c = checked_is p ms i given in
    subst (λ (l : Linked). Answers bytes (Ok l)) c.0 (read, c.1)

pub image_spelled : (bytes : List ℕ) (p : Parts) (ms : List Module) (i : Linked) → bytes ≡ spelling p → checked_image p ms ≡ Ok i → bytes ≡ spelling i.parts
image_spelled bytes p ms i spelled given = spelled ∙ ap (λ (l : Linked). spelling l.parts) (checked_is p ms i given).0

-- an index of a text that is none of a module is that of a text
pub unread_within : (ts : List (List ℕ)) (index : ℕ) (e : ModuleRefusal) → IsUnread ts index e → index < length ts
unread_within ts index e un = slice_get_within ts index un.text un.is

-- ---- the spelling of parts that keep all rules

read_first : (bytes : List ℕ) (p q : Parts) → reading bytes ≡ Ok p → reading bytes ≡ Ok q → q ≡ p
read_first bytes p q a b = cc

no_fault : {A : Type 0} (r : Result A FieldFault) (x : A) (e : FieldFault) → r ≡ Ok x → r ≡ Err e → ⊥
no_fault r x e a b = absurd cc

module _ (p : Parts) (ms : List Module) (fitting : IsFitting p) (sized : IsSized p) (profiled : AreProfiled p.texts ms) (fine : checking p ms ≡ Ok tt) where
  read : reading (spelling p) ≡ Ok p
  read = reading_again p fitting sized

  -- the modules of the parts that were read are these
  same_modules : (q : Parts) (ns : List Module) → reading (spelling p) ≡ Ok q → AreModulesOf q.texts ns → (q ≡ p) × (ns ≡ ms)
  same_modules q ns a b =
      let parts : q ≡ p = read_first (spelling p) p q read a in
      (parts, one_list p.texts ns ms (subst (λ (x : Parts). AreModulesOf x.texts ns) parts b) profiled.read)

  pub read_as : (answer : Result Linked ImageRefusal) → Answers (spelling p) answer → IsReadAs (linked p ms) answer
  read_as (Ok l) h =
      let same = same_modules l.parts l.modules h.0.parts h.0.profiled.read in
      rw (sym same.0, sym same.1) refl
  read_as (Err (image.Field flaw offset)) (inl e) = no_fault (reading (spelling p)) p (at_field flaw offset) read e
  read_as (Err (image.Field flaw offset)) (inr v) =
      let same = same_modules v.parts v.modules v.read.parts v.read.profiled.read in
      no_fault (checking p ms) tt (at_field flaw offset) fine (ap (λ (x : Parts). checking x ms) (sym same.0) ∙ ap (checking v.parts) (sym same.1) ∙ v.is)
  read_as (Err (image.Module index e)) h = none_unread p.texts ms index e profiled.read (subst (λ (x : Parts). IsUnread x.texts index e) (read_first (spelling p) p h.0 read h.1) h.2)
  read_as (Err (image.Check r)) h =
      let same = same_modules h.0 h.2.modules h.1 h.2.read in
      not_out r (subst (λ (x : List Module). IsOutBy x r) same.1 h.2.out)
    where
      not_out : (c : CheckRefusal) → IsOutBy ms c → ⊥
      not_out (check.Memory e) o = o
      not_out (check.Duplicate name) o = only_memory ms (check.Duplicate name) o profiled.profile
      not_out check.TooMany o = only_memory ms check.TooMany o profiled.profile
      not_out (check.Broken rule owner name arity item) o = only_memory ms (check.Broken rule owner name arity item) o profiled.profile
  read_as (Err (image.Memory e)) h = tt

pub parts_read_again : ThePartsAreReadAgain
parts_read_again p ms fitting sized profiled fine answer h = read_as p ms fitting sized profiled fine answer h
