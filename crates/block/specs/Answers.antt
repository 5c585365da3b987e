-- The values of an answer; its refusal number is `number_in` of it (`refusal`, Reasons).
use Rattle.std.specs.Prelude.{ℕ, List, [], ◌∷◌, Result, Ok, Err}
use Rattle.refusal.specs.declared.Reason.{Reason}
use Rattle.block.specs.declared.BlockFields.{BlockFields}
use Rattle.block.specs.declared.Reading.{Reading}
use Rattle.block.specs.Writing.{holding_of}

-- the numbers of a block: S, L, R, then the four of each entry
abbrev pub block_numbers : BlockFields → List ℕ
block_numbers x =
    x.device.sectors
    ∷ x.device.metadata
    ∷ x.device.reserved
    ∷ (holding_of x.a).seconds
    ∷ (holding_of x.a).nanoseconds
    ∷ (holding_of x.a).bytes
    ∷ (holding_of x.a).checksum
    ∷ (holding_of x.b).seconds
    ∷ (holding_of x.b).nanoseconds
    ∷ (holding_of x.b).bytes
    ∷ (holding_of x.b).checksum
    ∷ []

-- what `read` says of a block
abbrev pub reading_values : Result Reading Reason → List ℕ
reading_values (Ok r) = block_numbers r.fields
reading_values (Err e) = []
