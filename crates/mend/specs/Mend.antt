-- Mending, document 01's word for repair: what it stores, in which groups. docs/FORMAT.md, 'Mending'.
use Rattle.std.specs.Prelude.{ℕ, Bool, cond, List, [], ◌∷◌, ◌++◌, Option, None, Result, Ok, Err}
use Rattle.refusal.specs.declared.Reason.{Reason}
use Rattle.layout.specs.declared.Device.{Device}
use Rattle.layout.specs.declared.Side.{Side}
use Rattle.layout.specs.declared.Area.{Area}
use Rattle.layout.specs.declared.Area.TheVariants.{A}
use Rattle.layout.specs.Places.{area_sector}
use Rattle.block.specs.declared.Holding.{Holding}
use Rattle.block.specs.declared.BlockFields.{BlockFields}
use Rattle.block.specs.Block.{pool_of, blockdev_of, fields_of}
use Rattle.block.specs.Writing.{block_of}
use Rattle.discovery.specs.declared.Found.{Found}
use Rattle.copy.specs.Copy.{block_in, entry_in, other_side, whole, newest, device_in}
use Rattle.discovery.specs.Discovery.{discovery, is_in_step, copy_on, record_bytes}
use Rattle.crash.specs.Crash.{Groups}
use Rattle.stores.specs.Stores.{with_entry, record_stores, block_store}

-- a block with the identity of a copy's block
unfoldable pub block_like : List ℕ → BlockFields → List ℕ
block_like c g = block_of (pool_of (block_in c)) (blockdev_of (block_in c)) g

-- a signature block's numbers with both entries unused
abbrev pub emptied : Device → BlockFields
emptied v = record { device = v; a = None; b = None }

-- with that entry for area a
abbrev pub refilled : Device → Option Holding → BlockFields
refilled v e = record { device = v; a = e; b = None }

-- with the later entry blanked
abbrev pub blanked : BlockFields → BlockFields
blanked g = with_entry g (newest g) None

-- the kept copy's later entry is whole
abbrev pub later_whole : List ℕ → Bool
later_whole c = whole c (fields_of (block_in c)) (newest (fields_of (block_in c)))

-- If the kept copy's later entry is not whole, one last store blanks that entry.
unfoldable pub last_group : Side → List ℕ → Groups
last_group w c = cond (later_whole c) [] (block_store w (device_in c) (block_like c (blanked (fields_of (block_in c)))) ∷ [])

-- A copy is written anew on side w, with the identity of the copy c, a record r and its entry e: its signature block with both entries
-- unused, then the record in area a, its last sector filled with zeros, then its block with that entry.
abbrev pub anew_groups : Side → List ℕ → Option Holding → List ℕ → Groups
anew_groups w c e r =
    block_store w (device_in c) (block_like c (emptied (device_in c)))
    ∷ record_stores (area_sector w A (device_in c)) r
    ∷ block_store w (device_in c) (block_like c (refilled (device_in c) e))
    ∷ []

-- The copy c of side w, with the found record r in area x, is kept and the other is rewritten.
unfoldable pub rewriting : Side → List ℕ → Area → List ℕ → Groups
rewriting w c x r = anew_groups (other_side w) c (entry_in (fields_of (block_in c)) x) r ++ last_group w c

-- Mending serves any state that discovery answers. In step: no stores. Otherwise the copy with the found record is kept.
abbrev pub groups_after : Result Found Reason → List ℕ → List ℕ → Groups
groups_after (Err r) f b = []
groups_after (Ok a) f b =
    cond (is_in_step f b) [] (rewriting a.finding.side (copy_on a.finding.side f b) a.finding.area (record_bytes a.finding f b))

-- the stores of a mend of the copies f and b, in their groups
unfoldable pub mend_groups : List ℕ → List ℕ → Groups
mend_groups f b = groups_after (discovery f b) f b
