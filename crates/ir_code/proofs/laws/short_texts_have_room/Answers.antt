use Rattle.ir_code.proofs.Short as short
use Rattle.ir_code.proofs.laws.short_texts_have_room.Goals as goal

pub returns : goal.returns
returns c = short.short_texts_have_room
