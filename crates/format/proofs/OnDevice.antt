-- Runs of sectors on a device, and two copies on one.
use Prim.Native.Nat.{ℕ, zero, suc, ◌+◌, ◌*◌, ◌≤◌, ◌<◌}
use mathlib.Core.Path.{◌≡◌, refl, sym, ap, ap₂, ◌∙◌}
use mathlib.Core.Logic.{◌⊎◌, inl, inr}
use mathlib.Core.List.{List, [], ◌∷◌, ◌++◌}
use native.Mathlib.Omega.{arith}
use Rattle.std.proofs.lemmas.Bool.Decides.{nat_tests}
use lib.ListN.{length}
use Rattle.endian.specs.Bytes.{window}
use Rattle.endian.proofs.Parts.{length-window-fits, window-append, window_rest}
use Rattle.endian.proofs.Tests.{length-zeros}
use Rattle.layout.specs.declared.Device.{Device}
use Rattle.layout.specs.declared.Side.{Side}
use Rattle.layout.specs.declared.Side.TheVariants.{Front, Back}
use Rattle.layout.specs.declared.Area.{Area}
use Rattle.layout.specs.declared.Area.TheVariants.{A, B}
use Rattle.layout.specs.Limits.{record_limit}
use Rattle.layout.specs.Places.{area_offset, copy_bytes}
use Rattle.copy.specs.Copy.{area_bytes}
use Rattle.discovery.specs.Discovery.{copy_on}
use Rattle.crash.specs.Crash.{Sectors, Sound, gather, area_sectors, copy_from}
use Rattle.crash.proofs.Copies.{limit_sectors, limit_small}
use Rattle.stores.proofs.Places.{Sizes}
use Rattle.stores.proofs.Whole.{area_fits}
use Rattle.format.specs.OnDevice.{Run, holding, header_run, area_run, runs_of, on_device}

-- a run's bytes are those of its sectors
abbrev Full : List Run → Type 0
Full [] = Unit {0}
Full (q ∷ qs) = (length q.content ≡ q.sectors * 512) × Full qs

-- the runs begin at k or later, each after the end of the one before
abbrev Ordered : ℕ → List Run → Type 0
Ordered k [] = Unit {0}
Ordered k (q ∷ qs) = (k ≤ q.start) × Ordered (q.start + q.sectors) qs

abbrev In : Run → List Run → Type 0
In q [] = ⊥
In q (r ∷ rs) = (r ≡ q) ⊎ In q rs

hit : (q : Run) (qs : List Run) (i : ℕ) → i < q.sectors → holding (q ∷ qs) (q.start + i) ≡ window q.content (512 * i) 512
unfolding holding
hit q qs i h = grind (arith, nat_tests)

miss : (q : Run) (qs : List Run) (n : ℕ) → q.start + q.sectors ≤ n → holding (q ∷ qs) n ≡ holding qs n
unfolding holding
miss q qs n h = grind (arith, nat_tests)

-- a run of a list begins no earlier than the list
above : (k : ℕ) (qs : List Run) (q : Run) → Ordered k qs → In q qs → k ≤ q.start
above k [] q o m = absurd m
above k (r ∷ rs) q o (inl e) = omega (arith, ap (λ (z : Run). z.start) e)
above k (r ∷ rs) q o (inr m) = omega (arith, above (r.start + r.sectors) rs q o.1 m)

-- the device holds each run
held : (k : ℕ) (qs : List Run) (q : Run) → Ordered k qs → In q qs → (i : ℕ) → i < q.sectors
    → holding qs (q.start + i) ≡ window q.content (512 * i) 512
held k [] q o m i h = absurd m
held k (r ∷ rs) q o (inl e) i h =
    ap (λ (z : Run). holding (z ∷ rs) (q.start + i)) e ∙ hit q rs i h
held k (r ∷ rs) q o (inr m) i h =
    let w : r.start + r.sectors ≤ q.start = above (r.start + r.sectors) rs q o.1 m in
    miss r rs (q.start + i) (omega arith) ∙ held (r.start + r.sectors) rs q o.1 m i h

-- each sector has 512 bytes
length-holding : (qs : List Run) → Full qs → (n : ℕ) → length (holding qs n) ≡ 512
unfolding holding
length-holding [] f n = length-zeros 512
length-holding (q ∷ qs) f n =
    let e : length (holding qs n) ≡ 512 = length-holding qs f.1 n in
    grind (arith, nat_tests, length-window-fits)

-- sectors that hold a list's parts, one after the other
gathered : (e : Sectors) (c : List ℕ) (m s at : ℕ) → ((i : ℕ) → i < m → e (s + i) ≡ window c (at + 512 * i) 512) → gather e s m ≡ window c at (m * 512)
unfolding gather window
gathered e c zero s at h = refl
gathered e c (suc m) s at h =
    let l : e s ≡ window c at 512 = grind (arith, h 0) in
    let t : gather e (suc s) m ≡ window c (at + 512) (m * 512) = gathered e c m (suc s) (at + 512) (λ i l. grind (arith, h (suc i))) in
    grind (arith, window-append c at 512 (m * 512))

gather-run : (qs : List Run) (q : Run) → Ordered 0 qs → In q qs → length q.content ≡ q.sectors * 512
    → gather (holding qs) q.start q.sectors ≡ q.content
unfolding window
gather-run qs q o m l =
    gathered (holding qs) q.content q.sectors q.start 0
    (λ i h. held 0 qs q o m i h ∙ ap (λ (k : ℕ). window q.content k 512) (let z : 512 * i ≡ 0 + 512 * i = omega arith in z))
    ∙ window_rest q.content 0 (q.sectors * 512) (omega arith)

-- the parts of a copy make the copy
joined : (c : List ℕ) → length c ≡ copy_bytes → window c 0 4096 ++ (area_bytes c A record_limit ++ area_bytes c B record_limit) ≡ c
unfolding area_offset copy_bytes
joined c n =
    let e : window c 0 (4096 + (record_limit + record_limit)) ≡ c = grind (arith, window_rest c 0 (4096 + (record_limit + record_limit))) in
    grind (arith, window-append c 0 4096 (record_limit + record_limit), window-append c 4096 record_limit record_limit)

header_within : 4096 ≤ copy_bytes
unfolding copy_bytes
header_within = omega arith

module _ (v : Device) (z : Sizes v) (f b : List ℕ) (nf : length f ≡ copy_bytes) (nb : length b ≡ copy_bytes) where
  -- the six runs ascend
  ordered : Ordered 0 (runs_of v f b)
  ordered =
      let m : area_sectors ≤ 1020 = limit_small in
      (omega arith, (omega arith, (omega arith, (omega arith, (omega arith, (omega arith, tt))))))

  header_full : (c : List ℕ) → length c ≡ copy_bytes → length (window c 0 4096) ≡ 8 * 512
  header_full c n = length-window-fits c 0 4096 (omega (arith, header_within))

  area_full : (c : List ℕ) → length c ≡ copy_bytes → (x : Area) → length (area_bytes c x record_limit) ≡ area_sectors * 512
  area_full c n x = length-window-fits c (area_offset x) record_limit (omega (arith, area_fits x)) ∙ sym limit_sectors

  full : Full (runs_of v f b)
  full = (header_full f nf, (area_full f nf A, (area_full f nf B, (area_full b nb A, (area_full b nb B, (header_full b nb, tt))))))

  pub sound_device : Sound (on_device v f b)
  unfolding on_device
  sound_device = record { size = length-holding (runs_of v f b) full }

  -- each copy is read from its places
  pub its_copy : (s : Side) → copy_from s v (on_device v f b) ≡ copy_on s f b
  unfolding on_device copy_from
  its_copy Front =
      ap₂ ◌++◌ (gather-run (runs_of v f b) (header_run Front v f) ordered (inl refl) (header_full f nf))
      (ap₂ ◌++◌ (gather-run (runs_of v f b) (area_run Front A v f) ordered (inr (inl refl)) (area_full f nf A))
      (gather-run (runs_of v f b) (area_run Front B v f) ordered (inr (inr (inl refl))) (area_full f nf B)))
      ∙ joined f nf
  its_copy Back =
      ap₂ ◌++◌ (gather-run (runs_of v f b) (header_run Back v b) ordered (inr (inr (inr (inr (inr (inl refl)))))) (header_full b nb))
      (ap₂ ◌++◌ (gather-run (runs_of v f b) (area_run Back A v b) ordered (inr (inr (inr (inl refl)))) (area_full b nb A))
      (gather-run (runs_of v f b) (area_run Back B v b) ordered (inr (inr (inr (inr (inl refl))))) (area_full b nb B)))
      ∙ joined b nb
