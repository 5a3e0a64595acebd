-- Calls on an inserter, one after another, and what they send.
use Rattle.std.specs.Prelude.{ℕ, Bool, true, false, List, [], ◌∷◌, map, filter, get_or, eqb}
use Rattle.wire.specs.Reply.{Reply, refused, given}
use Rattle.times.specs.declared.Steps.{Steps}
use Rattle.inserter.specs.declared.Inserter.{Inserter}
use Rattle.inserter.specs.Packet.{given_refusal, Handled, sent_number, insert_of}

-- a call: a packet, and the STS of the next mark that is given with it
pub record Item : Type 0 where
  pub bytes : List ℕ
  pub sts : Steps

abbrev pub call_of : Inserter → Item → Handled
call_of s i = insert_of s i.bytes i.sts

-- what steps leave and reply, one after another; each gets the inserter that the last one left
abbrev pub one_by_one : (Inserter → Item → Handled) → Inserter → List Item → List Handled
one_by_one step s [] = []
one_by_one step s (i ∷ is) = step s i ∷ one_by_one step (step s i).inserter is

-- and the inserter behind them
abbrev pub left_by : (Inserter → Item → Handled) → Inserter → List Item → Inserter
left_by step s [] = s
left_by step s (i ∷ is) = left_by step (step s i).inserter is

-- of the calls
abbrev pub outcomes : Inserter → List Item → List Handled
outcomes = one_by_one call_of

abbrev pub inserter_after : Inserter → List Item → Inserter
inserter_after = left_by call_of

-- a packet that is refused is not sent, and has no place; one with 21 is sent, and has one
abbrev pub is_sent : Reply ℕ → Bool
is_sent (refused k) = false
is_sent (given k) = true

abbrev pub sent_among : List Handled → List Handled
sent_among = filter (λ h. is_sent h.reply)

-- the packets that leave, in their order, and the number of each, 0 or 21
unfoldable pub packets : Inserter → List Item → List (List ℕ)
packets s is = map (λ h. h.bytes) (sent_among (outcomes s is))

unfoldable pub numbers : Inserter → List Item → List ℕ
numbers s is = map (λ h. sent_number h.reply) (sent_among (outcomes s is))

-- what came for them: the calls that neither 1 nor 2 nor 11 refuses
abbrev pub came : List Item → List Item
came = filter (λ i. eqb (given_refusal i.bytes i.sts) 0)

-- an item that no list has: where none is at a place
abbrev pub no_item : Item
no_item = record { bytes = []; sts = record { 0 = 0 } }

-- the STS given with the packet at place t
abbrev pub sts_at : List Item → ℕ → Steps
sts_at is t = (get_or (came is) t no_item).sts

-- the packet at place t is the one that t others left before; none is there yet where too few have left
abbrev pub packet_at : List (List ℕ) → ℕ → List ℕ
packet_at ps t = get_or ps t []
