-- `words::uuid` meets its contract.
use Rattle.endian.specs.Bytes.{zeros}
use Rattle.words.proofs.Words.{dashed-length, uuid-dashed, uuid-none, uuid-plain}
use Rattle.words.proofs.uuid.Goals as goal

pub joined-requires : goal.joined-requires
joined-requires c = dashed-length _ _ c.dashed.ensures c.if-dashed.true

pub returns-then-dashed : goal.returns-then-dashed
returns-then-dashed c =
    uuid-dashed _ _ c.dashed.ensures _ _ c.if-dashed.true c.joined.ensures c.hex_uuid.ensures

pub returns-then-s-ne32 : goal.returns-then-s-ne32
returns-then-s-ne32 c = uuid-none _ _ c.dashed.ensures c.if-dashed.false c.if-s-ne32.true

pub returns : goal.returns
unfolding zeros
returns c =
    uuid-plain _ _ c.dashed.ensures _ _ c.if-dashed.false c.if-s-ne32.false c.put.ensures.s_after c.hex_uuid-2.ensures
