-- The thrust envelope: the largest signed word so far, less a decay for each sample since.
use Rattle.std.specs.Prelude.{ℕ, ◌-◌, ◌^◌, Bool, true, cond, ◌&&◌, ℤ, pos, ◌+ℤ◌, ◌-ℤ◌, neg_ℤ, Some, None, Option, nat_lt}
use Rattle.std.proofs.Common.{of_z, to_z}
use Rattle.std.specs.Int.{int_max, w32}
use Rattle.faults.specs.declared.record.Value.{Value}
use Rattle.faults.specs.declared.record.Value.TheVariants.{First}
use Rattle.sections.specs.Meaning.{Meaning}
use Rattle.sections.specs.Range.{within}
use Rattle.sections.specs.declared.envelope.Decay.{Decay}
use Rattle.sections.specs.declared.envelope.EnvelopeMap.{EnvelopeMap}

-- z is a signed 32-bit number
abbrev pub signed_32 : ℤ → Bool
signed_32 z = within (neg_ℤ (pos (2 ^ 31))) (pos (2 ^ 31 - 1)) z

-- a kept number out of range is read as the state 0
abbrev pub read_state : ℤ → ℤ
read_state s = cond (signed_32 s) s (pos 0)

-- the next state for the signed word x is max(x, s - d)
abbrev pub step : ℕ → ℤ → ℕ → ℤ
step d s x = int_max (to_z w32 x) (read_state s -ℤ pos d)

abbrev pub next : Decay → ℤ → ℕ → ℤ
next p = step p.value

abbrev pub envelope_map : ℤ → ℤ → EnvelopeMap
envelope_map p q = record { fall = p; floor = q }

-- rest is (0, -2 ^ 31)
abbrev pub rest : EnvelopeMap
rest = envelope_map (pos 0) (neg_ℤ (pos (2 ^ 31)))

-- a map keeps -2 ^ 32 ≤ p ≤ 0 and q in the signed 32-bit range; kept numbers that do not are read as rest
abbrev pub read_map : EnvelopeMap → EnvelopeMap
read_map f = cond (within (neg_ℤ (pos (2 ^ 32))) (pos 0) f.fall && signed_32 f.floor) f rest

-- the word's map is (-d, x)
abbrev pub word : Decay → ℕ → EnvelopeMap
word d x = envelope_map (neg_ℤ (pos d.value)) (to_z w32 x)

-- a map (p, q) takes s to max(s + p, q)
abbrev pub moved : EnvelopeMap → ℤ → ℤ
moved f s = int_max (s +ℤ f.fall) f.floor

abbrev pub effect : EnvelopeMap → ℤ → ℤ
effect f s = moved (read_map f) (read_state s)

-- the join is (p1 + p2 held at -2 ^ 32, max(q1 + p2, q2))
abbrev pub joined : EnvelopeMap → EnvelopeMap → EnvelopeMap
joined f g = envelope_map (int_max (neg_ℤ (pos (2 ^ 32))) (f.fall +ℤ g.fall)) (int_max (f.floor +ℤ g.fall) g.floor)

abbrev pub join : EnvelopeMap → EnvelopeMap → EnvelopeMap
join f g = joined (read_map f) (read_map g)

-- a state shows itself, in two's complement
abbrev pub shown : ℤ → ℕ
shown s = of_z w32 (read_state s)

abbrev pub envelope : Meaning Decay ℤ EnvelopeMap
envelope = record { next = next; rest = rest; word = word; join = join; effect = effect; shown = shown; signed = true; inside = signed_32; zero = pos 0 }

-- the decay is from 0 to 2 ^ 31 - 1
abbrev pub decay_fault : ℕ → Option Value
decay_fault d = cond (nat_lt d (2 ^ 31)) None (Some First)
