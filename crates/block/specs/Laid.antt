-- The block's bytes as the writer stores them: each field at its offset, into zeros. Only private functions' contracts
-- cite this; law `laid_body` says that it is `Writing.body_fields` joined.
use Rattle.std.specs.Prelude.{ℕ, ◌+◌, List}
use Rattle.endian.specs.Bytes.{to_le, splice, zeros}
use Rattle.block.specs.declared.Holding.{Holding}
use Rattle.block.specs.declared.BlockFields.{BlockFields}
use Rattle.block.specs.Block.{signature_bytes}
use Rattle.block.specs.Writing.{holding_of}

-- an entry's four numbers at an offset
unfoldable pub entry_laid : List ℕ → ℕ → Holding → List ℕ
entry_laid s at h =
    splice (splice (splice (splice s at (to_le 8 h.seconds)) (at + 8) (to_le 4 h.nanoseconds)) (at + 12) (to_le 4 h.bytes)) (at + 16)
    (to_le 4 h.checksum)

-- all fields but the checksum, in n bytes
unfoldable pub body_laid : ℕ → List ℕ → List ℕ → BlockFields → List ℕ
body_laid n p u f =
    splice
    (splice
    (entry_laid
    (entry_laid (splice (splice (splice (splice (zeros n) 4 signature_bytes) 20 (to_le 8 f.device.sectors)) 32 p) 64 u) 96 (holding_of f.a)) 128
    (holding_of f.b))
    160
    (to_le 4 f.device.metadata))
    164
    (to_le 4 f.device.reserved)
