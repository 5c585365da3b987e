-- Area entries and the order of times: docs/FORMAT.md, 'Signature block'.
use Rattle.std.specs.Prelude.{ℕ, Bool, true, not, cond, ◌&&◌, ◌||◌, ltb, eqb, Option, Some, None}
use Rattle.layout.specs.Limits.{length_allowed, nanoseconds_allowed}
use Rattle.block.specs.declared.Time.{Time}
use Rattle.block.specs.declared.Holding.{Holding}

-- times are compared by seconds, then nanoseconds: t is later than u
unfoldable pub later_than : Time → Time → Bool
later_than t u = ltb u.seconds t.seconds || (eqb u.seconds t.seconds && ltb u.nanoseconds t.nanoseconds)

-- t and u are one time
unfoldable pub same_time : Time → Time → Bool
same_time t u = eqb t.seconds u.seconds && eqb t.nanoseconds u.nanoseconds

-- the time of what an area holds
abbrev pub time_of : Holding → Time
time_of h = record { seconds = h.seconds; nanoseconds = h.nanoseconds }

-- document 01's 'unused' and 'used': an area entry is unused when all four of its fields are zero, otherwise used
unfoldable pub entry_of : ℕ → ℕ → ℕ → ℕ → Option Holding
entry_of s n u c =
    cond (eqb s 0 && (eqb n 0 && (eqb u 0 && eqb c 0))) None
    (Some (record { seconds = s; nanoseconds = n; bytes = u; checksum = c }))

-- used bytes of a used entry 1 to the record limit; nanoseconds at most 999,999,999
abbrev pub entry_allowed : Option Holding → Bool
entry_allowed None = true
entry_allowed (Some h) = length_allowed h.bytes && nanoseconds_allowed h.nanoseconds

-- two used entries have different times
abbrev pub different_times : Option Holding → Option Holding → Bool
different_times None e = true
different_times (Some h) None = true
different_times (Some h) (Some k) = not (same_time (time_of h) (time_of k))

-- the limits of a block's two entries
abbrev pub entries_allowed : Option Holding → Option Holding → Bool
entries_allowed a b = entry_allowed a && (entry_allowed b && different_times a b)
