-- The rings of keyspaces, and why one is refused.
use Rattle.std.specs.Prelude.{◌≡◌, ℕ, List, IsPermutation}
use Rattle.std.specs.List.{AllZip}
use Rattle.vl_catalog.specs.declared.keyspace_parts.KeyspaceParts.{KeyspaceParts}
use Rattle.vl_vindex.specs.KeyRange.{Range, IsFault, IsRead}
use Rattle.vl_vindex.specs.Ring.{CoversOnce, IsInOrder, IsRingFault}
use Rattle.vl_vindex.specs.declared.ring_fault.RingFault.TheVariants as ring_faults
use Rattle.vl_load.specs.declared.keyspace_read.KeyspaceRead.{KeyspaceRead}
use Rattle.vl_load.specs.declared.refused.Refused.{Refused}
use Rattle.vl_load.specs.declared.refused.Refused.TheVariants as refusals
use Rattle.vl_load.specs.Turns.{IsFirst}

-- the ring of ranges that cover each keyspace id once: the ranges in the order of their starts
pub record IsRingOf (ranges ring : List Range) : Type 0 where
  pub once : CoversOnce ranges
  pub same : IsPermutation ranges ring
  pub order : IsInOrder ring

-- what the files say of a keyspace, with the ring of its ranges
pub record HasRing (read : KeyspaceRead) (parts : KeyspaceParts) : Type 0 where
  pub name : parts.name ≡ read.keyspace.name
  pub vschema : parts.vschema ≡ read.vschema
  pub tables : parts.tables ≡ read.tables
  pub ranges : List Range
  pub spelled : AllZip IsRead read.keyspace.shards ranges
  pub ring : IsRingOf ranges parts.ring

-- a text is no range, and where
abbrev pub IsBadRange : List ℕ → Refused → Type 0
IsBadRange range (refusals.Range text at) = (text ≡ range) × IsFault range at
IsBadRange range _ = ⊥

-- the ranges of the keyspace of this name are no ring
abbrev pub RefusesRing : List ℕ → List Range → Refused → Type 0
RefusesRing name ranges (refusals.Gap keyspace after) = (keyspace ≡ name) × IsRingFault ranges (ring_faults.Gap after)
RefusesRing name ranges (refusals.Overlap keyspace at) = (keyspace ≡ name) × IsRingFault ranges (ring_faults.Overlap at)
RefusesRing name ranges _ = ⊥

-- the first text of a keyspace that is no range is refused, or else its ranges are
pub data RefusesShards (read : KeyspaceRead) (fault : Refused) : Type 0 where
  BadRange : IsFirst IsRead IsBadRange read.keyspace.shards fault → RefusesShards read fault
  BadRing : (ranges : List Range) → AllZip IsRead read.keyspace.shards ranges → RefusesRing read.keyspace.name ranges fault → RefusesShards read fault

-- the first of the keyspaces whose shards are refused is refused so
abbrev pub RefusesRings : List KeyspaceRead → Refused → Type 0
RefusesRings reads fault = IsFirst HasRing RefusesShards reads fault
