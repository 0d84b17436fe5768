-- Modules of an image's texts are loadable: their items have numbers, and their functions few arguments.
use Rattle.std.proofs.Common.{ℕ, List, arith}
use Rattle.beam_code.specs.declared.module.Module.{Module}
use Rattle.mode_switch.specs.Lookup.{IsLoadable}
use Rattle.mode_switch.specs.Opening.{IsLow}
use Rattle.module_texts.proofs.Bounds.{are_bounded}
use Rattle.module_texts.proofs.Lists.{are_of_their_texts}
use Rattle.module_texts.specs.Bounds.{AreBounded}
use Rattle.module_texts.specs.Texts.{AreProfiled}

bounded : (ts : List (List ℕ)) (ms : List Module) → AreProfiled ts ms → AreBounded ms
bounded ts ms p = are_bounded ms (are_of_their_texts ts ms p.read) p.profile

pub loadable : (ts : List (List ℕ)) (ms : List Module) → AreProfiled ts ms → IsLoadable ms
loadable ts ms p =
    let b : AreBounded ms = bounded ts ms p in
    record { items = omega (arith, b.items); entries = λ fid f at. (let low = b.entries fid f at in omega arith) }

pub low : (ts : List (List ℕ)) (ms : List Module) → AreProfiled ts ms → IsLow ms
low ts ms p = (bounded ts ms p).arities
