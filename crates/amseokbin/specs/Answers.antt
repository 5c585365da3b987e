-- What C is answered: each library's answer as a struct of the header. A refusal has its number with what stands beside it, and zero in every other
-- field.
use Rattle.std.specs.Prelude.{ℕ, List, Result, Ok, Err}
use Rattle.endian.specs.Bytes.{zeros}
use Rattle.refusal.specs.Refusals.{plain}
use Rattle.layout.specs.declared.Device.{Device}
use Rattle.layout.specs.declared.CopyMap.{CopyMap}
use Rattle.layout.specs.declared.DeviceMap.{DeviceMap}
use Rattle.layout.specs.declared.BlockSectors.{BlockSectors}
use Rattle.refusal.specs.declared.Reason.{Reason}
use Rattle.refusal.specs.Reasons.{refusal_of}
use Rattle.block.specs.declared.Holding.{Holding}
use Rattle.block.specs.declared.BlockFields.{BlockFields}
use Rattle.block.specs.declared.Reading.{Reading}
use Rattle.block.specs.Entry.{entry_of}
use Rattle.block.specs.Writing.{holding_of}
use Rattle.amseokbin.specs.declared.Block.{Block}
use Rattle.amseokbin.specs.declared.BlocksAnswer.{BlocksAnswer}
use Rattle.amseokbin.specs.declared.PlacesAnswer.{PlacesAnswer}
use Rattle.amseokbin.specs.declared.BlockAnswer.{BlockAnswer}

-- the sectors of the two signature blocks
abbrev pub blocks_answer : Result BlockSectors Reason → BlocksAnswer
blocks_answer (Ok b) = record { refusal = plain 0; front = b.front; back = b.back }
blocks_answer (Err r) = record { refusal = refusal_of r; front = 0; back = 0 }

-- places
abbrev pub no_copy_map : CopyMap
no_copy_map = record { header = 0; block = 0; a = 0; b = 0; reserved = 0 }

abbrev pub no_map : DeviceMap
no_map = record { front = no_copy_map; back = no_copy_map; start = 0; end = 0 }

abbrev pub places_answer : Result DeviceMap Reason → PlacesAnswer
places_answer (Ok p) = record { refusal = plain 0; map = p }
places_answer (Err r) = record { refusal = refusal_of r; map = no_map }

-- A signature block: its numbers and its UUIDs. An unused entry has zero in all four of its fields.
abbrev pub no_device : Device
no_device = record { sectors = 0; metadata = 0; reserved = 0 }

abbrev pub no_entry : Holding
no_entry = record { seconds = 0; nanoseconds = 0; bytes = 0; checksum = 0 }

abbrev pub no_block : Block
no_block = record { device = no_device; a = no_entry; b = no_entry; pool = zeros 32; blockdev = zeros 32 }

abbrev pub block_of : BlockFields → List ℕ → List ℕ → Block
block_of x p u = record { device = x.device; a = holding_of x.a; b = holding_of x.b; pool = p; blockdev = u }

-- of what reading a block answered
abbrev pub block_answer : Result Reading Reason → BlockAnswer
block_answer (Ok x) = record { refusal = plain 0; block = block_of x.fields x.pool x.blockdev }
block_answer (Err r) = record { refusal = refusal_of r; block = no_block }

-- a block's numbers from C's struct
abbrev pub fields_from : Block → BlockFields
fields_from k =
    record {
      device = k.device;
      a = entry_of k.a.seconds k.a.nanoseconds k.a.bytes k.a.checksum;
      b = entry_of k.b.seconds k.b.nanoseconds k.b.bytes k.b.checksum;
    }
