-- Behind a name: a pad's descriptor makes the tile a pad, as it is read there, and any other byte makes it none.
-- Assumes nothing.
use Prim.Native.Nat.{ℕ, ◌+◌, ◌-◌, ◌≤◌, ◌<◌}
use native.Mathlib.Omega.{arith}
use mathlib.Core.Path.{◌≡◌, refl, ◌∙◌, sym, ap, subst}
use mathlib.Core.Bool.{true, false, not, true≢false}
use mathlib.Core.List.{List}
use lib.ListN.{length, get_or}
use lib.Dec.{ltb, eqb}
use borrow.Author.Tests.{not-false}
use Rattle.numbers.specs.Outcome.{Outcome, gives, refuses, and_then}
use Rattle.numbers.specs.Answers.{Unsigned}
use Rattle.numbers.specs.Descriptor.{descriptor_of}
use Rattle.numbers.specs.declared.type_descriptor.TypeDescriptor.{TypeDescriptor}
use Rattle.numbers.proofs.Outcomes.{by_case, then_then, then_same, then_gives, refuse_gives, Each, given, each_refuse, each_then, each_of, each_if}
use Rattle.framing.specs.Answers.{is_pad, peeked_descriptor, Frame, as_padding, pad_at, frame_at, read_frame, pad_or_none, read_pad}
use Rattle.framing.specs.Limits.{out_of_range}
use Rattle.framing.specs.Spans.{Padding}
use Rattle.framing.proofs.Bounds.{peeked_each}
use Rattle.framing.proofs.Locality.{FrameIs, pad_is, value_is, frame_is}
use Rattle.stepping.specs.Items.{Item}
use Rattle.stepping.specs.Answers.{Tile, skip, hand, version_passes, marker_at, tile_at}
use Rattle.stepping.specs.Names.{name_at, tile_by, tile_behind, is_marker}
use Rattle.stepping.specs.declared.cursor.Rules.{Rules}
use Rattle.stepping.specs.declared.cursor.Rules.TheVariants.{Stream, Sequence, Fields}
use Rattle.stepping.proofs.Naming.{tile_named}
use Rattle.stepping.proofs.Plain.{unmarked, refused_unmarked}
use Rattle.counting.specs.Pads.{begins_pad}
use Rattle.counting.proofs.PadReading.{pad_below}

abbrev pub as_skip : Padding → Outcome Tile
as_skip p = gives (skip p.body p.end)

-- a pad that is read begins with a pad's descriptor
pad_begins : (s : List ℕ) (at end : ℕ) (p : Padding) → read_pad s at end ≡ gives p → begins_pad (get_or s at 0) ≡ true
unfolding read_pad pad_or_none descriptor_of begins_pad
pad_begins s at end p e =
    let w = then_gives (peeked_descriptor s at end) (pad_or_none s at end) e in
    ap (λ (x : TypeDescriptor). is_pad x.kind) (sym (each_of (peeked_each s at end) w.1).is) ∙ not-false _ (refuse_gives (not (is_pad w.0.kind)) 22 at w.2).0

module _ (limit : ℕ) (rules : Rules) (s : List ℕ) (at hi : ℕ) where
  -- behind a name that is read
  module _ (u : Unsigned) (name : name_at rules s at hi ≡ gives u) where
    -- by its descriptor, where that is a pad's
    framed_pad : (d : TypeDescriptor) → is_pad d.kind ≡ true → and_then (frame_at limit s u.next hi d) (tile_by rules at u.value) ≡ and_then (pad_or_none s u.next hi d) as_skip
    unfolding frame_at pad_or_none
    framed_pad d e = rw e (then_then (pad_at s u.next hi d) as_padding (tile_by rules at u.value))

    pub pad_tile : begins_pad (get_or s u.next 0) ≡ true → tile_at limit rules s at hi ≡ and_then (read_pad s u.next hi) as_skip
    unfolding tile_behind read_frame read_pad descriptor_of begins_pad
    pad_tile b =
        tile_named limit s at hi rules (unmarked rules s at hi u name (omega (arith, pad_below (get_or s u.next 0) b)))
        ∙ (rw name)
        ∙ then_then (peeked_descriptor s u.next hi) (frame_at limit s u.next hi) (tile_by rules at u.value)
        ∙ then_same (peeked_each s u.next hi) refl (λ d w. framed_pad d (ap (λ (x : TypeDescriptor). is_pad x.kind) w.is ∙ b))
        ∙ sym (then_then (peeked_descriptor s u.next hi) (pad_or_none s u.next hi) as_skip)

  -- of a name that is refused the tile is refused alike
  pub refused_tile : out_of_range limit ≡ false → at < hi → hi ≤ length s → {number position : ℕ} → name_at rules s at hi ≡ refuses number position → tile_at limit rules s at hi ≡ refuses number position
  refused_tile g l m name = tile_named limit s at hi rules (refused_unmarked limit rules s at hi g l m rules name) ∙ (rw name)

-- a tile that is a pad stands behind a name, at a pad's descriptor
data Named (rules : Rules) (s : List ℕ) (at hi : ℕ) : Tile → Type 0 where
  pads : {b e : ℕ} (u : Unsigned) → name_at rules s at hi ≡ gives u → begins_pad (get_or s u.next 0) ≡ true → Named rules s at hi (skip b e)
  none : {i : Item} → Named rules s at hi (hand i)

module _ (limit : ℕ) (s : List ℕ) (at hi : ℕ) where
  marked : (rules : Rules) → is_marker rules (get_or s at 0) ≡ true → Each (Named rules s at hi) (tile_at limit rules s at hi)
  unfolding tile_at marker_at
  marked Stream m =
      rw m
      (each_refuse (ltb (hi - at) 4) 2 at (λ _.
      each_refuse (not (eqb (get_or s (at + 3) 0) 234)) 21 at (λ _.
      each_refuse (not (version_passes (get_or s (at + 1) 0) (get_or s (at + 2) 0))) 60 at (λ _. given none))))
  marked Sequence m = absurd (true≢false (sym m))
  marked Fields m = absurd (true≢false (sym m))

  framed : (rules : Rules) (u : Unsigned) → name_at rules s at hi ≡ gives u → {f : Frame} → FrameIs limit s u.next hi f → Each (Named rules s at hi) (tile_by rules at u.value f)
  framed rules u name (pad_is {p} q) = given (pads u name (pad_begins s u.next hi p q))
  framed rules u name (value_is q) = given none

  tile_each : (rules : Rules) → Each (Named rules s at hi) (tile_at limit rules s at hi)
  unfolding tile_behind
  tile_each rules =
      by_case (is_marker rules (get_or s at 0)) (marked rules) (λ n.
      subst (Each (Named rules s at hi)) (sym (tile_named limit s at hi rules n))
      (each_then (each_if (name_at rules s at hi) (λ u e. e)) (λ u e. each_then (frame_is limit s u.next hi) (λ f i. framed rules u e i))))

named_pad : {rules : Rules} {s : List ℕ} {at hi b e : ℕ} → Named rules s at hi (skip b e) → (u : Unsigned) × (name_at rules s at hi ≡ gives u) × (begins_pad (get_or s u.next 0) ≡ true)
named_pad (pads u name b) = (u, name, b)

pub pad_named : (limit : ℕ) (rules : Rules) (s : List ℕ) (at hi : ℕ) {b e : ℕ} → tile_at limit rules s at hi ≡ gives (skip b e) → (u : Unsigned) × (name_at rules s at hi ≡ gives u) × (begins_pad (get_or s u.next 0) ≡ true)
pad_named limit rules s at hi q = named_pad (each_of (tile_each limit s at hi rules) q)

-- at any other byte behind the name stands no pad
pub no-pad : (limit : ℕ) (rules : Rules) (s : List ℕ) (at hi : ℕ) (u : Unsigned) → name_at rules s at hi ≡ gives u → begins_pad (get_or s u.next 0) ≡ false → (b e : ℕ) → tile_at limit rules s at hi ≡ gives (skip b e) → ⊥
no-pad limit rules s at hi u name n b e q =
    let w = pad_named limit rules s at hi q in
    let v : w.0 ≡ u = cc w.1 in
    true≢false (sym w.2 ∙ ap (λ (x : Unsigned). begins_pad (get_or s x.next 0)) v ∙ n)
