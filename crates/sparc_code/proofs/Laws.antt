-- Encoding and decoding are inverse, and nothing else decodes.
use Rattle.std.proofs.Common.{ℕ, ◌≡◌, ◌≢◌, ◌^◌, ◌<◌, Bool, true, false, nat_eq, inl, inr, arith, sym, ap, ◌∙◌, refl, Option, Some, None, List, [], ◌∷◌, if◌then◌else◌, IfSome}
use Rattle.std.specs.Option.{option_and_then}
use Rattle.std.proofs.lemmas.Bool.Decides.{eqb_tells}
use Rattle.sparc_code.specs.declared.instruction.Instr.{Instr}
use Rattle.sparc_code.specs.declared.instruction.Instr.TheVariants.{Call, Sethi, Branch, Arith, ReadY, Load, Store}
use Rattle.sparc_code.specs.declared.instruction.Source.{Source}
use Rattle.sparc_code.specs.declared.instruction.Source.TheVariants.{Reg, Imm}
use Rattle.sparc_code.specs.declared.instruction.ArithOp.{ArithOp}
use Rattle.sparc_code.specs.declared.instruction.ArithOp.TheVariants.{Add, And, Or, Xor, Sub, AndNot, SignedMultiply, AddCc, AndCc, OrCc, XorCc, SubCc, ShiftLeft, ShiftRightLogical, ShiftRightArithmetic, JumpAndLink}
use Rattle.sparc_code.specs.declared.instruction.Cond.{Cond}
use Rattle.sparc_code.specs.declared.instruction.Cond.TheVariants.{Never, Equal, LessOrEqual, Less, LessOrEqualUnsigned, CarrySet, Negative, OverflowSet, Always, NotEqual, Greater, GreaterOrEqual, GreaterUnsigned, CarryClear, Positive, OverflowClear}
use Rattle.sparc_code.specs.Bits.{joined, field_at, unsigned_of, signed_of}
use Rattle.sparc_code.specs.Tables.{op3_of, number_of, op_at, cond_at, first_with, all_ops, all_conds}
use Rattle.sparc_code.specs.Code.{IsInWidth, IsSource, annul_bit, source_of, source_at, sethi_of, branch_of, format3_of, format2_at, arith_at, memory_at, encoded, decoded}
use Rattle.sparc_code.proofs.Fields.{unsigned_below, signed-unsigned, unsigned-signed, IsWithin-signed, source_below, source_at-joined, format3_at_top, format3_at_rd, format3_at_op3, format3_at_rs1, format3_below}

-- ---- the tables
pub op_at-op3 : (op : ArithOp) → op_at (op3_of op) ≡ Some op
op_at-op3 Add = refl
op_at-op3 And = refl
op_at-op3 Or = refl
op_at-op3 Xor = refl
op_at-op3 Sub = refl
op_at-op3 AndNot = refl
op_at-op3 SignedMultiply = refl
op_at-op3 AddCc = refl
op_at-op3 AndCc = refl
op_at-op3 OrCc = refl
op_at-op3 XorCc = refl
op_at-op3 SubCc = refl
op_at-op3 ShiftLeft = refl
op_at-op3 ShiftRightLogical = refl
op_at-op3 ShiftRightArithmetic = refl
op_at-op3 JumpAndLink = refl

op3_below : (op : ArithOp) → op3_of op < 64
op3_below op = grind arith

op3_not_read : (op : ArithOp) → nat_eq (op3_of op) 0x28 ≡ false
op3_not_read op = grind arith

pub cond_at-number : (cond : Cond) → cond_at (number_of cond) ≡ Some cond
cond_at-number Never = refl
cond_at-number Equal = refl
cond_at-number LessOrEqual = refl
cond_at-number Less = refl
cond_at-number LessOrEqualUnsigned = refl
cond_at-number CarrySet = refl
cond_at-number Negative = refl
cond_at-number OverflowSet = refl
cond_at-number Always = refl
cond_at-number NotEqual = refl
cond_at-number Greater = refl
cond_at-number GreaterOrEqual = refl
cond_at-number GreaterUnsigned = refl
cond_at-number CarryClear = refl
cond_at-number Positive = refl
cond_at-number OverflowClear = refl

cond_below : (cond : Cond) → number_of cond < 16
cond_below cond = grind arith

-- ---- what an answer that depends on a test or on another answer holds
if_eq : {A : Type 0} (Q : A → Type 0) (m n : ℕ) (x y : Option A) → (m ≡ n → IfSome x Q) → (m ≢ n → IfSome y Q) → IfSome (if nat_eq m n then x else y) Q
if_eq Q m n x y same apart = elim (eqb_tells m n) [ inl p ↦ rw p.0 (same p.1) | inr p ↦ rw p.0 (apart p.1) ]

and_then : {A B : Type 0} (P : A → Type 0) (Q : B → Type 0) (f : A → Option B) (o : Option A) → IfSome o P → ((a : A) → P a → IfSome (f a) Q) → IfSome (option_and_then f o) Q
and_then P Q f None holds go = tt
and_then P Q f (Some a) holds go = go a holds

-- the first with a number has it
first_has : {A : Type 0} (number : A → ℕ) (all : List A) (n : ℕ) → IfSome (first_with number all n) (λ a. number a ≡ n)
first_has number [] n = tt
first_has number (a ∷ rest) n = if_eq (λ a. number a ≡ n) (number a) n (Some a) (first_with number rest n) (λ same. same) (λ _. first_has number rest n)

-- ---- a word that decodes is the word of its instruction
abbrev pub Spells : ℕ → Instr → Type 0
Spells word i = IsInWidth i × (encoded i ≡ word)

abbrev SpellsSource : ℕ → Source → Type 0
SpellsSource word src = IsSource src × (source_of src ≡ field_at word 0 14)

source_spells : (w : ℕ) → IfSome (source_at w) (SpellsSource w)
source_spells w = if_eq (SpellsSource w) (field_at w 13 1) 1 _ _ (λ one. immediate one) (λ other. if_eq (SpellsSource w) (field_at w 5 8) 0 _ _ (λ zeros. plain other zeros) (λ _. tt))
  where
    immediate : field_at w 13 1 ≡ 1 → SpellsSource w (Imm (signed_of 13 (field_at w 0 13)))
    immediate one = let below : field_at w 0 13 < 2 ^ 13 = omega arith in (IsWithin-signed 13 (field_at w 0 13) (omega arith) below, ap (joined 1 13) (unsigned-signed 13 (field_at w 0 13) (omega arith) below) ∙ omega (arith, one))

    plain : field_at w 13 1 ≢ 1 → field_at w 5 8 ≡ 0 → SpellsSource w (Reg (field_at w 0 5))
    plain other zeros = (omega arith, omega (arith, other, zeros))

format2_spells : (w : ℕ) → w < 2 ^ 32 → field_at w 30 2 ≡ 0 → IfSome (format2_at w) (Spells w)
format2_spells w below top =
    if_eq (Spells w) (field_at w 22 3) 4 _ _ (λ is_sethi. sethi is_sethi)
    (λ _. if_eq (Spells w) (field_at w 22 3) 2 _ _ (λ is_branch. and_then (λ cond. number_of cond ≡ field_at w 25 4) (Spells w) _ (cond_at (field_at w 25 4)) (first_has number_of all_conds (field_at w 25 4)) (λ cond has. branch is_branch cond has)) (λ _. tt))
  where
    sethi : field_at w 22 3 ≡ 4 → Spells w (Sethi (field_at w 25 5) (field_at w 0 22))
    sethi is_sethi = ((omega arith, omega arith), omega (arith, below, top, is_sethi))

    a : ℕ
    a = annul_bit (nat_eq (field_at w 29 1) 1)

    annul : annul_bit (nat_eq (field_at w 29 1) 1) ≡ field_at w 29 1
    annul = grind arith

    branch : field_at w 22 3 ≡ 2 → (cond : Cond) → number_of cond ≡ field_at w 25 4 → Spells w (Branch cond (nat_eq (field_at w 29 1) 1) (signed_of 22 (field_at w 0 22)))
    branch is_branch cond has =
        let small : field_at w 0 22 < 2 ^ 22 = omega arith in
        let disp : unsigned_of 22 (signed_of 22 (field_at w 0 22)) ≡ field_at w 0 22 = unsigned-signed 22 (field_at w 0 22) (omega arith) small in
        let whole : branch_of (field_at w 29 1) (field_at w 25 4) (field_at w 0 22) ≡ w = omega (arith, below, top, is_branch) in
        (IsWithin-signed 22 (field_at w 0 22) (omega arith) small, rw (annul, has, disp) whole)

abbrev format3_word : ℕ → ℕ → ℕ → ℕ
format3_word top op3 w = format3_of top (field_at w 25 5) op3 (field_at w 14 5) (field_at w 0 14)

arith_spells : (w : ℕ) → w < 2 ^ 32 → field_at w 30 2 ≡ 2 → IfSome (arith_at w) (Spells w)
arith_spells w below top =
    if_eq (Spells w) (field_at w 19 6) 0x28 _ _ (λ reads. if_eq (Spells w) (field_at w 0 19) 0 _ _ (λ zeros. (omega arith, omega (arith, below, top, reads, zeros))) (λ _. tt))
    (λ _. and_then (λ op. op3_of op ≡ field_at w 19 6) (Spells w) _ (op_at (field_at w 19 6)) (first_has op3_of all_ops (field_at w 19 6))
    (λ op has. and_then (SpellsSource w) (Spells w) _ (source_at w) (source_spells w) (λ src spells. operation op has src spells)))
  where
    operation : (op : ArithOp) → op3_of op ≡ field_at w 19 6 → (src : Source) → SpellsSource w src → Spells w (Arith op (field_at w 25 5) (field_at w 14 5) src)
    operation op has src spells =
        let whole : format3_word 2 (field_at w 19 6) w ≡ w = omega (arith, below, top) in
        ((omega arith, omega arith, spells.0), rw (has, spells.1) whole)

memory_spells : (w : ℕ) → w < 2 ^ 32 → field_at w 30 2 ≡ 3 → IfSome (memory_at w) (Spells w)
memory_spells w below top =
    if_eq (Spells w) (field_at w 19 6) 0x00 _ _ (λ loads. and_then (SpellsSource w) (Spells w) _ (source_at w) (source_spells w) (λ src spells. load loads src spells))
    (λ _. if_eq (Spells w) (field_at w 19 6) 0x04 _ _ (λ stores. and_then (SpellsSource w) (Spells w) _ (source_at w) (source_spells w) (λ src spells. store stores src spells)) (λ _. tt))
  where
    load : field_at w 19 6 ≡ 0 → (src : Source) → SpellsSource w src → Spells w (Load (field_at w 25 5) (field_at w 14 5) src)
    load loads src spells = let whole : format3_word 3 0x00 w ≡ w = omega (arith, below, top, loads) in ((omega arith, omega arith, spells.0), rw spells.1 whole)

    store : field_at w 19 6 ≡ 4 → (src : Source) → SpellsSource w src → Spells w (Store (field_at w 25 5) (field_at w 14 5) src)
    store stores src spells = let whole : format3_word 3 0x04 w ≡ w = omega (arith, below, top, stores) in ((omega arith, omega arith, spells.0), rw spells.1 whole)

pub decoded_spells : (w : ℕ) → w < 2 ^ 32 → IfSome (decoded w) (Spells w)
decoded_spells w below =
    if_eq (Spells w) (field_at w 30 2) 0 _ _ (λ top. format2_spells w below top)
    (λ not0. if_eq (Spells w) (field_at w 30 2) 1 _ _ (λ top. call top)
    (λ not1. if_eq (Spells w) (field_at w 30 2) 2 _ _ (λ top. arith_spells w below top) (λ not2. memory_spells w below (omega (arith, not0, not1, not2)))))
  where
    call : field_at w 30 2 ≡ 1 → Spells w (Call (signed_of 30 (field_at w 0 30)))
    call top = let small : field_at w 0 30 < 2 ^ 30 = omega arith in (IsWithin-signed 30 (field_at w 0 30) (omega arith) small, ap (joined 1 30) (unsigned-signed 30 (field_at w 0 30) (omega arith) small) ∙ omega (arith, below, top))

-- ---- an instruction in width is what its word decodes to
format3_decodes : (op3 : ℕ) (rd rs1 : ℕ) (src : Source) → op3 < 64 → rd < 32 → rs1 < 32 → IsSource src → nat_eq op3 0x28 ≡ false → (op : ArithOp) → op_at op3 ≡ Some op → decoded (format3_of 2 rd op3 rs1 (source_of src)) ≡ Some (Arith op rd rs1 src)
format3_decodes op3 rd rs1 src op3_fits rd_fits rs1_fits fits not_read op has =
    let s : source_of src < 2 ^ 14 = source_below src fits in
    rw (format3_at_top 2 rd op3 rs1 (source_of src) (omega arith) rd_fits op3_fits rs1_fits s, format3_at_op3 2 rd op3 rs1 (source_of src) (omega arith) rd_fits op3_fits rs1_fits s, format3_at_rd 2 rd op3 rs1 (source_of src) (omega arith) rd_fits op3_fits rs1_fits s, format3_at_rs1 2 rd op3 rs1 (source_of src) (omega arith) rd_fits op3_fits rs1_fits s, not_read, has, source_at-joined _ src fits) refl

memory_decodes : (op3 : ℕ) (rd rs1 : ℕ) (src : Source) → op3 < 64 → rd < 32 → rs1 < 32 → IsSource src →
    decoded (format3_of 3 rd op3 rs1 (source_of src)) ≡ (if nat_eq op3 0x00 then Some (Load rd rs1 src) else if nat_eq op3 0x04 then Some (Store rd rs1 src) else None)
memory_decodes op3 rd rs1 src op3_fits rd_fits rs1_fits fits =
    let s : source_of src < 2 ^ 14 = source_below src fits in
    rw (format3_at_top 3 rd op3 rs1 (source_of src) (omega arith) rd_fits op3_fits rs1_fits s, format3_at_op3 3 rd op3 rs1 (source_of src) (omega arith) rd_fits op3_fits rs1_fits s, format3_at_rd 3 rd op3 rs1 (source_of src) (omega arith) rd_fits op3_fits rs1_fits s, format3_at_rs1 3 rd op3 rs1 (source_of src) (omega arith) rd_fits op3_fits rs1_fits s, source_at-joined _ src fits) refl

sethi_decodes : (rd imm : ℕ) → rd < 32 → imm < 2 ^ 22 → decoded (sethi_of rd imm) ≡ Some (Sethi rd imm)
sethi_decodes rd imm rd_fits fits =
    let at_top : field_at (sethi_of rd imm) 30 2 ≡ 0 = omega (arith, rd_fits, fits) in
    let at_op2 : field_at (sethi_of rd imm) 22 3 ≡ 4 = omega (arith, rd_fits, fits) in
    let at_rd : field_at (sethi_of rd imm) 25 5 ≡ rd = omega (arith, rd_fits, fits) in
    let at_imm : field_at (sethi_of rd imm) 0 22 ≡ imm = omega (arith, rd_fits, fits) in
    rw (at_top, at_op2, at_rd, at_imm) refl

branch_decodes : (a number disp : ℕ) (cond : Cond) → a < 2 → number < 16 → disp < 2 ^ 22 → cond_at number ≡ Some cond → decoded (branch_of a number disp) ≡ Some (Branch cond (nat_eq a 1) (signed_of 22 disp))
branch_decodes a number disp cond a_fits number_fits disp_fits has =
    let at_top : field_at (branch_of a number disp) 30 2 ≡ 0 = omega (arith, a_fits, number_fits, disp_fits) in
    let at_op2 : field_at (branch_of a number disp) 22 3 ≡ 2 = omega (arith, a_fits, number_fits, disp_fits) in
    let at_annul : field_at (branch_of a number disp) 29 1 ≡ a = omega (arith, a_fits, number_fits, disp_fits) in
    let at_number : field_at (branch_of a number disp) 25 4 ≡ number = omega (arith, a_fits, number_fits, disp_fits) in
    let at_disp : field_at (branch_of a number disp) 0 22 ≡ disp = omega (arith, a_fits, number_fits, disp_fits) in
    rw (at_top, at_op2, at_annul, at_number, at_disp, has) refl

read_y_decodes : (rd : ℕ) → rd < 32 → decoded (format3_of 2 rd 0x28 0 0) ≡ Some (ReadY rd)
read_y_decodes rd rd_fits =
    let at_top : field_at (format3_of 2 rd 0x28 0 0) 30 2 ≡ 2 = omega (arith, rd_fits) in
    let at_op3 : field_at (format3_of 2 rd 0x28 0 0) 19 6 ≡ 0x28 = omega (arith, rd_fits) in
    let at_lower : field_at (format3_of 2 rd 0x28 0 0) 0 19 ≡ 0 = omega (arith, rd_fits) in
    let at_rd : field_at (format3_of 2 rd 0x28 0 0) 25 5 ≡ rd = omega (arith, rd_fits) in
    rw (at_top, at_op3, at_lower, at_rd) refl

call_decodes : (disp : ℕ) → disp < 2 ^ 30 → decoded (joined 1 30 disp) ≡ Some (Call (signed_of 30 disp))
call_decodes disp fits =
    let at_top : field_at (joined 1 30 disp) 30 2 ≡ 1 = omega (arith, fits) in
    let at_disp : field_at (joined 1 30 disp) 0 30 ≡ disp = omega (arith, fits) in
    rw (at_top, at_disp) refl

annul_is : (annul : Bool) → nat_eq (annul_bit annul) 1 ≡ annul
annul_is true = refl
annul_is false = refl

annul_below : (annul : Bool) → annul_bit annul < 2
annul_below true = omega arith
annul_below false = omega arith

pub decoded-encoded : (i : Instr) → IsInWidth i → decoded (encoded i) ≡ Some i
decoded-encoded (Call disp) fits = call_decodes (unsigned_of 30 disp) (unsigned_below 30 disp fits) ∙ ap (λ z. Some (Call z)) (signed-unsigned 30 disp (omega arith) fits)
decoded-encoded (Sethi rd imm) fits = sethi_decodes rd imm fits.0 fits.1
decoded-encoded (Branch cond annul disp) fits =
    branch_decodes (annul_bit annul) (number_of cond) (unsigned_of 22 disp) cond (annul_below annul) (cond_below cond) (unsigned_below 22 disp fits) (cond_at-number cond)
    ∙ ap (λ b. Some (Branch cond b (signed_of 22 (unsigned_of 22 disp)))) (annul_is annul) ∙ ap (λ z. Some (Branch cond annul z)) (signed-unsigned 22 disp (omega arith) fits)
decoded-encoded (Arith op rd rs1 src) fits = format3_decodes (op3_of op) rd rs1 src (op3_below op) fits.0 fits.1 fits.2 (op3_not_read op) op (op_at-op3 op)
decoded-encoded (ReadY rd) fits = read_y_decodes rd fits
decoded-encoded (Load rd rs1 src) fits = memory_decodes 0x00 rd rs1 src (omega arith) fits.0 fits.1 fits.2
decoded-encoded (Store rd rs1 src) fits = memory_decodes 0x04 rd rs1 src (omega arith) fits.0 fits.1 fits.2

-- the word of an instruction in width has 32 bits
pub encoded_below : (i : Instr) → IsInWidth i → encoded i < 2 ^ 32
encoded_below (Call disp) fits = omega (arith, unsigned_below 30 disp fits)
encoded_below (Sethi rd imm) fits = omega (arith, fits.0, fits.1)
encoded_below (Branch cond annul disp) fits = omega (arith, annul_below annul, cond_below cond, unsigned_below 22 disp fits)
encoded_below (Arith op rd rs1 src) fits = format3_below 2 rd (op3_of op) rs1 (source_of src) (omega arith) fits.0 (op3_below op) fits.1 (source_below src fits.2)
encoded_below (ReadY rd) fits = omega (arith, fits)
encoded_below (Load rd rs1 src) fits = format3_below 3 rd 0x00 rs1 (source_of src) (omega arith) fits.0 (omega arith) fits.1 (source_below src fits.2)
encoded_below (Store rd rs1 src) fits = format3_below 3 rd 0x04 rs1 (source_of src) (omega arith) fits.0 (omega arith) fits.1 (source_below src fits.2)

-- an instruction in width whose word this is, is what the word decodes to
pub decoded_all : (word : ℕ) (i : Instr) → IsInWidth i → encoded i ≡ word → decoded word ≡ Some i
decoded_all word i fits same = ap decoded (sym same) ∙ decoded-encoded i fits
