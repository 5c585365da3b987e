-- What stores are made of, in other words, which `proofs/Filling.antt` proves; and a refused call changes no lent byte, which
-- `proofs/Refusing.antt` proves.
use Rattle.std.specs.Prelude.{ℕ, ◌+◌, ◌*◌, ◌≤◌, ◌<◌, ◌≡◌, List, length, get_or, Err}
use Rattle.refusal.specs.declared.Reason.{Reason}
use Rattle.refusal.specs.Tests.{first}
use Rattle.layout.specs.declared.Area.{Area}
use Rattle.layout.specs.Places.{area_offset}
use Rattle.block.specs.declared.BlockFields.{BlockFields}
use Rattle.stores.specs.declared.Part.{Part}
use Rattle.stores.specs.Stores.{sectors_of, sector_of}
use Rattle.stores.specs.Given.{block_given, block_left, part_given, part_left, lay_tests, laid}

-- A record of n bytes fills the fewest sectors that have room for it.
abbrev pub Fewest : Type 0
Fewest = (n : ℕ) → (n ≤ 512 * sectors_of n) × (512 * sectors_of n < n + 512)

-- Sector j of a record has the record's bytes from 512 j on, and zeros past its end, where `get_or r` is 0.
pub record Sectored (r : List ℕ) (j : ℕ) : Type 0 where
  pub size : length (sector_of r j) ≡ 512
  pub byte : (i : ℕ) → i < 512 → get_or (sector_of r j) i 0 ≡ get_or r (512 * j + i) 0

abbrev pub Sectoring : Type 0
Sectoring = (r : List ℕ) (j : ℕ) → Sectored r j

-- A record laid into area x of a copy: the sectors that it fills have its bytes, and zeros past its end; all other bytes stay.
pub record Lays (c : List ℕ) (x : Area) (r : List ℕ) : Type 0 where
  pub size : length (laid c x r) ≡ length c
  pub filled : (i : ℕ) → i < 512 * sectors_of (length r) → get_or (laid c x r) (area_offset x + i) 0 ≡ get_or r i 0
  pub other : (i : ℕ) → (area_offset x ≤ i → i < area_offset x + 512 * sectors_of (length r) → ⊥) → get_or (laid c x r) i 0 ≡ get_or c i 0

abbrev pub Laying : Type 0
Laying = (c : List ℕ) (x : Area) (r : List ℕ) → first (lay_tests c r) ≡ 0 → Lays c x r

pub record Refusing : Type 0 where
  pub block : (s : ℕ) (g : BlockFields) (c out : List ℕ) (e : Reason) → block_given s g c out ≡ Err e → block_left g c out ≡ out
  pub part : (p : Part) (k : ℕ) (c r : List ℕ) (j : ℕ) (out : List ℕ) (e : Reason) → part_given p k c r j out ≡ Err e → part_left p k c r j out ≡ out
  pub lay : (c : List ℕ) (x : Area) (r : List ℕ) → (first (lay_tests c r) ≡ 0 → ⊥) → laid c x r ≡ c
