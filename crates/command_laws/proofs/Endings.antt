-- The ending that a settled status stands for, with its cause.
use Rattle.std.proofs.Common.{◌≡◌, ℕ, zero, suc, refl, arith}
use Rattle.beam_profile.specs.declared.refusal.ModuleRefusal.TheVariants as unread
use Rattle.command_laws.specs.Settled.{IsSettled}
use Rattle.hipe_core.specs.Answer.{Case, EndedBy, IsAnswer, IsOfImage, IsOfLength, IsOfModules, IsOfStage, IsOfText, IsOfWords}
use Rattle.hipe_core.specs.Command.{Ends}
use Rattle.hipe_core.specs.declared.ending.Ending.{Ending}
use Rattle.hipe_core.specs.declared.ending.Ending.TheVariants.{Said, Usage, ArgsRefused, ModuleRefused, CheckRefused, ImageRefused, NotExported, ArgsDoNotFit, CannotRead, CannotWrite, NoMemory, TooLong, NotBuilt}
use Rattle.hipe_core.specs.Lines.{status_of}

-- an ending with a cause in the words and the bytes
abbrev pub IsFound : Ending → Type 0
IsFound (CannotRead file) = ⊥
IsFound CannotWrite = ⊥
IsFound NoMemory = ⊥
IsFound e = Unit {0}

pub record Found (c : Case) (status : ℕ) : Type 0 where
  pub ending : Ending
  pub found : IsFound ending
  pub cause : Ends c.asks ending c.effects
  pub status_is : status ≡ status_of ending

abbrev Stands : ℕ → Ending → Type 0
Stands status e = IsFound e × (status ≡ status_of e)

text_stands : (e : Ending) → IsOfText e → Stands 3 e
text_stands (ArgsRefused e) k = (tt, refl)
text_stands (ModuleRefused file (unread.Text e)) k = (tt, refl)
text_stands other k = absurd k

modules_stand : (e : Ending) → IsOfModules e → Stands 4 e
modules_stand (ModuleRefused file (unread.Text e)) k = absurd k
modules_stand (ModuleRefused file e) k = (tt, refl)
modules_stand (CheckRefused r) k = (tt, refl)
modules_stand other k = absurd k

image_stands : (e : Ending) → IsOfImage e → Stands 5 e
image_stands (ImageRefused file e) k = (tt, refl)
image_stands other k = absurd k

words_stand : (e : Ending) → IsOfWords e → Stands 6 e
words_stand Usage k = (tt, refl)
words_stand (NotExported entry count) k = (tt, refl)
words_stand ArgsDoNotFit k = (tt, refl)
words_stand other k = absurd k

length_stands : (e : Ending) → IsOfLength e → Stands 10 e
length_stands (TooLong file) k = (tt, refl)
length_stands other k = absurd k

stage_stands : (e : Ending) → IsOfStage e → Stands 11 e
stage_stands (NotBuilt file) k = (tt, refl)
stage_stands other k = absurd k

found_by : (Kind : Ending → Type 0) (c : Case) (status : ℕ) → ((e : Ending) → Kind e → Stands status e) → EndedBy Kind c → Found c status
found_by Kind c status stands by =
    let s = stands by.ending by.kind in
    record { ending = by.ending; found = s.0; cause = by.so.cause; status_is = s.1 }

pub found_of : (c : Case) (status : ℕ) → IsAnswer c status → IsSettled status → Found c status
found_of c zero a s = record { ending = Said 0; found = tt; cause = (a.done refl).cause; status_is = refl }
found_of c (suc zero) a s = record { ending = Said 1; found = tt; cause = (a.raised refl).cause; status_is = refl }
found_of c (suc (suc zero)) a s = record { ending = Said 2; found = tt; cause = (a.ended refl).cause; status_is = refl }
found_of c (suc (suc (suc zero))) a s = found_by IsOfText c 3 text_stands (a.texts refl)
found_of c (suc (suc (suc (suc zero)))) a s = found_by IsOfModules c 4 modules_stand (a.modules refl)
found_of c (suc (suc (suc (suc (suc zero))))) a s = found_by IsOfImage c 5 image_stands (a.image refl)
found_of c (suc (suc (suc (suc (suc (suc zero)))))) a s = found_by IsOfWords c 6 words_stand (a.words refl)
found_of c (suc (suc (suc (suc (suc (suc (suc zero))))))) a s = absurd (s.read refl)
found_of c (suc (suc (suc (suc (suc (suc (suc (suc zero)))))))) a s = absurd (s.written refl)
found_of c (suc (suc (suc (suc (suc (suc (suc (suc (suc zero))))))))) a s = absurd (s.stored refl)
found_of c (suc (suc (suc (suc (suc (suc (suc (suc (suc (suc zero)))))))))) a s = found_by IsOfLength c 10 length_stands (a.long refl)
found_of c (suc (suc (suc (suc (suc (suc (suc (suc (suc (suc (suc zero))))))))))) a s = found_by IsOfStage c 11 stage_stands (a.unbuilt refl)
found_of c (suc (suc (suc (suc (suc (suc (suc (suc (suc (suc (suc (suc n)))))))))))) a s = absurd (omega (arith, a.known))
