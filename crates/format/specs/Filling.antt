-- A copy as the code fills it, step by step. Only a private function's contract cites this; law `filled-formatted` says that
-- it is `Format.formatted_copy` where formatting is not refused.
use Rattle.std.specs.Prelude.{ℕ, List}
use Rattle.endian.specs.Bytes.{window, splice, zeros}
use Rattle.layout.specs.declared.Area.TheVariants.{A}
use Rattle.layout.specs.Limits.{sector_bytes, block_offset}
use Rattle.layout.specs.Places.{copy_bytes}
use Rattle.block.specs.declared.BlockFields.{BlockFields}
use Rattle.block.specs.Writing.{written}
use Rattle.stores.specs.Given.{laid}

-- zeros, then the block into sector 1 as the writer leaves it, then the record into area a
unfoldable pub filled : List ℕ → List ℕ → BlockFields → List ℕ → List ℕ
filled p u x r = laid (splice (zeros copy_bytes) block_offset (written (window (zeros copy_bytes) block_offset sector_bytes) p u x)) A r
