-- The records of an input as calls on an inserter, in the words of crate `feed`, and the packets that the counts stand for.
use Rattle.std.specs.Prelude.{ℕ, zero, suc, ◌+◌, ◌*◌, ◌/◌, List, [], ◌∷◌, length, drop}
use Rattle.wire.specs.BigEndian.{be32_at}
use Rattle.feed.specs.Calls.{Item}
use Rattle.inserting.specs.declared.Insertion.{Insertion}
use Rattle.inserting.specs.Settings.{rest_of}
use Rattle.inserting.specs.Records.{sts_length, record_length, first_of}

-- a record
abbrev pub item_of : List ℕ → Item
item_of r = record { bytes = drop sts_length r; sts = record { 0 = be32_at r 0 } }

-- the first k records of an input
unfoldable pub items_of : ℕ → List ℕ → List Item
items_of zero i = []
items_of (suc k) i = item_of (first_of i) ∷ items_of k (drop record_length i)

-- all that are whole, behind its settings
abbrev pub items_in : List ℕ → List Item
items_in i = items_of (length (rest_of i) / record_length) (rest_of i)

-- the packets of the mega-frames that have ended, and of this one so far
abbrev pub sent_before : Insertion → ℕ
sent_before s = s.inserter.settings.n * s.counts.mega_frame + s.inserter.progress.label
