-- The words that a term is looked up in (docs/MACHINE.md, Agreement).
use Rattle.std.specs.Prelude.{ℕ, ◌+◌, ◌-◌, ◌/◌, List, take, length}
use Rattle.mode_switch.specs.declared.hardware.TheConstants.{TOP_REGISTER}
use Rattle.mode_switch.specs.State.{Loaded, MixedState}
use Rattle.sparc_code.specs.Step.{register}
use Rattle.tagged_words.specs.Region.{Region}
use Rattle.tagged_words.specs.Store.{Store}
use Rattle.tagged_words.specs.declared.addresses.TheConstants.{HEAP_START}

-- the register of the heap top
abbrev pub heap_top : MixedState → ℕ
heap_top s = register s.regs TOP_REGISTER

-- the words of a heap whose address lies below its top
abbrev pub below_top : ℕ → List ℕ → List ℕ
below_top top words = take ((top - HEAP_START + 3) / 4) words

abbrev pub used_heap : MixedState → List ℕ
used_heap s = below_top (heap_top s) s.memory.heap.words

abbrev pub store_of : Loaded → MixedState → Store
store_of g s = record { literals = g.parts.literals; heap = used_heap s }

-- where a region begins, and how many words it has
abbrev pub extent : Region → ℕ × ℕ
extent r = (r.start, length r.words)
