-- The reading of a found record, proved in the words of `specs/Demand.antt`.
use Prim.Native.Nat.{ℕ, ◌+◌, ◌≤◌}
use mathlib.Core.Path.{◌≡◌, sym, ap, subst, ◌∙◌}
use mathlib.Core.List.{List, ◌++◌}
use native.Mathlib.Omega.{arith}
use lib.ListN.{length, take, drop}
use lib.Seq.{take_at, drop_at}
use Rattle.std.proofs.Common.{Result, Err}
use Rattle.refusal.specs.declared.Reason.{Reason}
use Rattle.refusal.specs.Reasons.{reason}
use Rattle.block.specs.declared.BlockFields.{BlockFields}
use Rattle.endian.proofs.Parts.{length-window-fits, splice-fits}
use Rattle.layout.specs.Limits.{record_limit}
use Rattle.layout.specs.declared.Area.{Area}
use Rattle.layout.specs.declared.Area.TheVariants.{A, B}
use Rattle.copy.specs.Demand.{Sized, first_bytes}
use Rattle.copy.proofs.Demand.{area_bytes_lem, bytes_most}
use Rattle.discovery.specs.declared.Finding.{Finding}
use Rattle.discovery.specs.declared.Found.{Found}
use Rattle.discovery.specs.Discovery.{found_with, discovery, copy_on, record_bytes, read_answer, read_bytes}
use Rattle.discovery.specs.Demand.{Finds, ReadFound}
use Rattle.discovery.proofs.Room.{no_room, with_room}
use Rattle.discovery.proofs.Demand.{exactly}

-- a record of a copy is as long as its entry says
first-length : (c : List ℕ) (x : Area) (n : ℕ) → Sized c → n ≤ record_limit → length (first_bytes c x n) ≡ n
first-length c A n s l = length-window-fits c 4096 n (omega arith)
first-length c B n s l = length-window-fits c (4096 + record_limit) n (omega arith)

module _ (f b out : List ℕ) where
  -- what is left where the answer is a
  left : (a : Result Found Reason) → read_answer (discovery f b) (length out) ≡ a → read_bytes (read_answer (discovery f b) (length out)) f b out ≡ read_bytes a f b out
  left a e = ap (λ (z : Result Found Reason). read_bytes z f b out) e

  stays : (e : Reason) → read_answer (discovery f b) (length out) ≡ Err e
      → (read_answer (discovery f b) (length out) ≡ Err e) × (read_bytes (read_answer (discovery f b) (length out)) f b out ≡ out)
  stays e h = (h, left (Err e) h)

  module _ (q : Finding) (o : Result BlockFields Reason) (m : Finds f b q o) where
    e : discovery f b ≡ found_with q o
    e = ((exactly f b).found q o).1 m

    starts : record_bytes q f b ≡ first_bytes (copy_on q.side f b) q.area q.bytes
    starts = area_bytes_lem (copy_on q.side f b) q.area q.bytes

    long : length (record_bytes q f b) ≡ q.bytes
    long =
        ap length starts
        ∙ first-length (copy_on q.side f b) q.area q.bytes (m.size q.side)
        (subst (λ (n : ℕ). n ≤ record_limit) (sym m.bytes) (bytes_most (copy_on q.side f b) m.whole.accepted q.area m.h m.whole.used))

    room : q.bytes ≤ length out
        → (read_answer (discovery f b) (length out) ≡ found_with q o)
        × ((take q.bytes (read_bytes (read_answer (discovery f b) (length out)) f b out) ≡ first_bytes (copy_on q.side f b) q.area q.bytes)
        × (drop q.bytes (read_bytes (read_answer (discovery f b) (length out)) f b out) ≡ drop q.bytes out))
    room l =
        let a : read_answer (discovery f b) (length out) ≡ found_with q o = with_room (discovery f b) (length out) q o e l in
        let n : length (record_bytes q f b) ≡ q.bytes = long in
        let s : read_bytes (read_answer (discovery f b) (length out)) f b out ≡ record_bytes q f b ++ drop q.bytes out =
        left (found_with q o) a
        ∙ (splice-fits out 0 (record_bytes q f b) (omega arith)
        ∙ ap (λ (i : ℕ). record_bytes q f b ++ drop i out) (let z : 0 + length (record_bytes q f b) ≡ q.bytes = omega arith in z)) in (
          a,
          (
            ap (take q.bytes) s ∙ (take_at (record_bytes q f b) (drop q.bytes out) q.bytes n ∙ starts),
            ap (drop q.bytes) s ∙ drop_at (record_bytes q f b) (drop q.bytes out) q.bytes n,
          ),
        )

pub read_found : ReadFound
read_found f b out =
    record {
      room = room f b out;
      short = λ q o m l. stays f b out (reason 1) (no_room (discovery f b) (length out) q o (e f b out q o m) l);
      refused = λ x d. stays f b out x (ap (λ (a : Result Found Reason). read_answer a (length out)) d);
    }
