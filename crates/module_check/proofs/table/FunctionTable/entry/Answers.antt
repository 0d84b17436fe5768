use Rattle.std.proofs.Common.{◌≡◌, ℕ, sym, ap, ◌∙◌, inl, inr, arith, List, Option, Some, None, length, slice_get}
use Rattle.std.specs.Option.{IfSome, option_copied}
use Rattle.std.proofs.lemmas.Option.{slice_get_cases, slice_get_within}
use denote.Bor.{Bor}
use Rattle.beam_code.specs.declared.module.Module.{Module}
use Rattle.beam_code.specs.Function.{all_functions, function_at}
use Rattle.module_check.specs.declared.entry.Entry.{Entry}
use Rattle.module_check.specs.declared.table.FunctionTable.{FunctionTable}
use Rattle.module_check.specs.Checks.{IsEntryAt, IsTableOf}
use Rattle.module_check.proofs.table.FunctionTable.entry.Goals as goal

entered : (ms : List Module) (table : FunctionTable) (fid : ℕ) (e : Entry) → IsTableOf ms table → slice_get table.entries fid ≡ Some e → IsEntryAt ms fid e
entered ms table fid e is at =
    let long = is.entries.long in
    elim (slice_get_cases (all_functions ms) fid).1 [
      | inl r ↦ record { f = r.0; is = r.2; entry = is.entries.each fid r.0 e r.2 at }
      | inr r ↦ absurd (let high = r.0 in let low = slice_get_within table.entries fid e at in omega arith)
    ]

not_entered : (ms : List Module) (table : FunctionTable) (fid : ℕ) → IsTableOf ms table → slice_get table.entries fid ≡ None → function_at ms fid ≡ None
not_entered ms table fid is none =
    let long = is.entries.long in
    elim (slice_get_cases (all_functions ms) fid).1 [
      | inr r ↦ r.1
      | inl r ↦ elim (slice_get_cases table.entries fid).1 [
        | inl s ↦ (let clash : None ≡ Some s.0 = sym none ∙ s.2 in absurd cc)
        | inr s ↦ absurd (let low = r.1 in let high = s.0 in omega arith)
      ]
    ]

some_of : (ms : List Module) (table : FunctionTable) (fid : ℕ) → IsTableOf ms table → (o : Option (Bor Entry)) → option_copied o ≡ slice_get table.entries fid → IfSome o (λ e. IsEntryAt ms fid e.now)
some_of ms table fid is None e = tt
some_of ms table fid is (Some b) e = entered ms table fid b.now is (sym e)

none_of : (ms : List Module) (table : FunctionTable) (fid : ℕ) → IsTableOf ms table → (o : Option (Bor Entry)) → option_copied o ≡ slice_get table.entries fid → o ≡ None → function_at ms fid ≡ None
none_of ms table fid is o e none = not_entered ms table fid is (sym e ∙ ap option_copied none)

pub returns-clause-some : goal.returns-clause-some
returns-clause-some c = some_of c.args.modules.now c.args.self.now c.args.fid c.requires c.get.result c.get.ensures.value

pub returns-clause-none : goal.returns-clause-none
returns-clause-none c = none_of c.args.modules.now c.args.self.now c.args.fid c.requires c.get.result c.get.ensures.value
