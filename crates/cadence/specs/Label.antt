-- A packet's label, its place 0 to n − 1 in its cadence (document 01, "Cadence", "Steps of a slave" and "Runs"). Label 0 is the mark.
use Rattle.std.specs.Prelude.{ℕ, ◌+◌, ◌-◌, ◌%◌, ltb}
use Rattle.wire.specs.Reply.{Reply, must, reply}

-- the label of the packet with this pointer, the number of packets between it and the next mark (TS 101 191 clause 6)
abbrev pub label_of : ℕ → ℕ → ℕ
label_of n pointer = n - 1 - pointer

-- and back: the pointer that the adapter writes at this label, by the same map
abbrev pub pointer_of : ℕ → ℕ → ℕ
pointer_of n label = label_of n label

-- number 12 refuses a pointer of n or more, and a label of n or more alike
abbrev pub in_cadence : ℕ → ℕ → ℕ → Reply ℕ
in_cadence n x value = reply (must (ltb x n) 12 0) value

-- the label of the adapter's packet at place t
abbrev pub label_at : ℕ → ℕ → ℕ
label_at n t = t % n

-- the label after l: l + 1, and 0 after n − 1
abbrev pub next_label : ℕ → ℕ → ℕ
next_label n l = (l + 1) % n
