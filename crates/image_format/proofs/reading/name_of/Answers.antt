use Rattle.std.proofs.Common.{ℕ, List, ◌<◌, refl, sym, subst}
use Rattle.term_tree.specs.Name.{characters_in}
use Rattle.image_format.proofs.Names.{no_name, a_name}
use Rattle.image_format.proofs.reading.name_of.Goals as goal

pub returns-in_default : goal.returns-in_default
returns-in_default c = rw (no_name c.args.bytes.now c.in_default.ensures.cases.0) refl

pub returns-in-Ok-new : goal.returns-in-Ok-new
returns-in-Ok-new c =
    let same = c.in-Ok.ensures.cases.0 in
    let short : 255 < characters_in c.args.bytes.now → ⊥ = λ lt. (let h = c.in-Ok-new.ensures.too_long.1 (subst (λ (x : List ℕ). 255 < characters_in x) (sym same) lt) in cc) in
    rw (a_name c.args.bytes.now c.in-Ok.ensures.cases.1 short, c.in-Ok-new.ensures.text, same) refl
