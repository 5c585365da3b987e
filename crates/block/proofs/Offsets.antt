-- The fields of an accepted block by their offsets, proved in the words of `specs/Demand.antt`.
use mathlib.Core.Path.{refl, ap}
use Rattle.endian.specs.Bytes.{window}
use Rattle.block.specs.declared.Holding.{Holding}
use Rattle.block.specs.Block.{signature_bytes, accepted_reading}
use Rattle.block.specs.Demand.{Offsets}
use Rattle.block.proofs.Readings.{accepted_reading_lem}
use Rattle.block.proofs.Exactly.{no_refusal}
use Rattle.block.proofs.RoundTrip.{holding-back}

pub offsets : Offsets
unfolding window signature_bytes
offsets b h =
    record {
      signature = h.signature;
      said = accepted_reading b;
      accepted = accepted_reading_lem b (no_refusal b h);
      pool = refl;
      blockdev = refl;
      numbers = λ at n. refl;
      sectors = refl;
      metadata = refl;
      reserved = refl;
      a_seconds = ap (λ (k : Holding). k.seconds) (holding-back _ _ _ _);
      a_nanoseconds = ap (λ (k : Holding). k.nanoseconds) (holding-back _ _ _ _);
      a_bytes = ap (λ (k : Holding). k.bytes) (holding-back _ _ _ _);
      a_checksum = ap (λ (k : Holding). k.checksum) (holding-back _ _ _ _);
      b_seconds = ap (λ (k : Holding). k.seconds) (holding-back _ _ _ _);
      b_nanoseconds = ap (λ (k : Holding). k.nanoseconds) (holding-back _ _ _ _);
      b_bytes = ap (λ (k : Holding). k.bytes) (holding-back _ _ _ _);
      b_checksum = ap (λ (k : Holding). k.checksum) (holding-back _ _ _ _);
    }
