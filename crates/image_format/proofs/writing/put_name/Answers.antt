use Rattle.std.proofs.Common.{ℕ, List, ◌++◌, length, ap, subst, ◌∙◌, arith}
use Rattle.term_tree.specs.Name.{characters_in}
use Rattle.std.specs.Str.{IsUtf8}
use Rattle.image_format.specs.Spelling.{text}
use Rattle.image_format.proofs.Names.{a_name}
use Rattle.image_format.proofs.Widths.{length_of_text}
use Rattle.image_format.proofs.writing.put_name.Goals as goal

pub put_text-requires : goal.put_text-requires
put_text-requires c = omega (arith, length_of_text c.as_str-text.result.now c.as_str-text.utf8, ap length c.as_bytes.ensures.value, ap characters_in c.as_str-text.ensures.text)

pub returns : goal.returns
returns c = (
  c.in_ok-put_text.ensures ∙ ap (λ (t : List ℕ). c.args.out.now.items ++ text t) (c.as_bytes.ensures.value ∙ c.as_str-text.ensures.text),
  a_name c.args.name.now (subst IsUtf8 c.as_str-text.ensures.text c.as_str-text.utf8) (λ lt. absurd (omega (arith, c.as_str-text.ensures.short, lt))),
)
