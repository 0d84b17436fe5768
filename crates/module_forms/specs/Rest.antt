-- The parts of a form, read one after another (docs/BEAM.md, Instructions).
use Rattle.std.specs.Prelude.{◌≡◌, IsTrue, ℕ, Bool, true, false, ◌||◌, List, [], ◌∷◌, Option, Some, None, option_and_then, Result, Ok, Err}
use Rattle.std.specs.Option.{option_map}
use denote.Bor.{Bor}
use Rattle.term_tree.specs.declared.term.Term.{Term}
use Rattle.module_forms.specs.declared.part.Got.{Got}
use Rattle.module_forms.specs.declared.part.Fault.{Fault}
use Rattle.module_forms.specs.Kind.{Kind, Val, Vals, Number, Stack, Arity, Any, Named, Source, Dest, Slot, Jump, Entry, Fail, NoFail, TwoSources, Elements, Cases, ArityCases, Function, Looks, Arguments}
use Rattle.module_forms.specs.Part as part
use Rattle.module_forms.specs.Part.{plain, is_shape}

-- the parts that are left, whether a number before them was past its limit, and the greatest index
pub record Rest : Type 0 where
  pub parts : List Term
  pub wide : Bool
  pub last : ℕ

-- a part of a kind
abbrev pub read : ℕ → (k : Kind) → Term → Option (Got (Val k))
read last Number t = option_map plain (part.number_of t)
read last Stack t = part.stack_of last t
read last Arity t = option_map plain (part.arity_of t)
read last Any t = Some (plain t)
read last Named t = option_map plain (part.named_of t)
read last Source t = part.operand_of last t
read last Dest t = part.place_of last t
read last Slot t = part.slot_of last t
read last Jump t = option_map plain (part.label_of t)
read last Entry t = option_map plain (part.label_of t)
read last Fail t = option_map plain (part.label_of t)
read last NoFail t = part.no_fail_of t
read last TwoSources t = part.two_of last t
read last Elements t = part.elements_of last t
read last Cases t = part.cases_of t
read last ArityCases t = part.arity_cases_of t
read last Function t = option_map plain (part.callee_of t)
read last (Looks ls) t = part.looks_of last ls t
read last (Arguments name) t = part.arguments_of last name t

abbrev pub next_of : {A : Type 0} → (Term → Option (Got A)) → Bool → ℕ → List Term → Option (A × Rest)
next_of reads wide last [] = None
next_of reads wide last (t ∷ ts) = option_map (λ g. (g.value, record { parts = ts; wide = wide || g.wide; last = last })) (reads t)

-- the next part
abbrev pub take : (k : Kind) → Rest → Option (Val k × Rest)
take k r = next_of (read r.last k) r.wide r.last r.parts

-- parts of these kinds
abbrev pub take_all : (ks : List Kind) → Rest → Option (Vals ks × Rest)
take_all [] r = Some (tt, r)
take_all (k ∷ ks) r = option_and_then (λ v. option_map (λ vs. ((v.0, vs.0), vs.1)) (take_all ks v.1)) (take k r)

-- all parts of a form
abbrev pub start : ℕ → List Term → Rest
start last ts = record { parts = ts; wide = false; last = last }

abbrev pub is_none_left : List Term → Bool
is_none_left [] = true
is_none_left (t ∷ ts) = false

-- what a reader of parts answers, but for want of memory
abbrev pub TookNext : Result (Bor Term) Fault → Rest → Rest → Type 0
TookNext (Ok t) new old = (old.parts ≡ t.now ∷ new.parts) × (new.wide ≡ old.wide) × (new.last ≡ old.last)
TookNext (Err e) new old = IsTrue (is_shape e) → old.parts ≡ []

abbrev pub Took : {X : Type 0} → Result X Fault → Rest → Option (X × Rest) → Type 0
Took (Ok x) new took = took ≡ Some (x, new)
Took (Err e) new took = IsTrue (is_shape e) → took ≡ None
