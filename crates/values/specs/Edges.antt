-- The starred entries of the scope paper's "Maps at the edges", as one list, with that paper's limit of 255 annotation bytes. That each holds is `edges` of
-- proofs/Edges.antt.
-- Assumes nothing.
use Rattle.std.specs.Prelude.{ℕ, ◌≡◌, true, false, List, [], ◌∷◌, length}
use Rattle.numbers.specs.Outcome.{Outcome, gives, refuses}
use Rattle.numbers.specs.Answers.{Unsigned, Signed, var_uint, var_int}
use Rattle.framing.specs.Answers.{Annotated, ident, read_annotation}
use Rattle.stepping.specs.Items.{Item, finish, value, field, Pad}
use Rattle.stepping.specs.Answers.{found}
use Rattle.stepping.specs.Runs.{cursor}
use Rattle.stepping.specs.declared.cursor.Rules.{Rules}
use Rattle.stepping.specs.declared.cursor.Rules.TheVariants.{Stream, Fields}
use Rattle.values.specs.Scalars.{Opened, step_in, Scalar, int, read_scalar}

-- an answer that a map has: of the first stream step on the whole of it; of a step on the part lo..hi, with the pads that it passes; of an annotation step;
-- of stepping in and of the scalar reading of what stands at 0; of the whole read as a VarUInt and as a VarInt
pub data Edge : Type 0 where
  streams : List ℕ → Outcome Item → Edge
  steps : Rules → List ℕ → ℕ → ℕ → List Pad → Outcome Item → Edge
  annotates : List ℕ → ℕ → ℕ → Outcome Annotated → Edge
  opens : List ℕ → Outcome Opened → Edge
  reads : List ℕ → Outcome Scalar → Edge
  var-uint : List ℕ → Outcome Unsigned → Edge
  var-int : List ℕ → Outcome Signed → Edge

abbrev pub Holds : Edge → Type 0
Holds (streams s o) = (found 255 Stream s (cursor 0 (length s))).answer ≡ o
Holds (steps rules s lo hi pads o) = found 255 rules s (cursor lo hi) ≡ record { pads = pads; answer = o }
Holds (annotates s at end o) = read_annotation s at end ≡ o
Holds (opens s o) = step_in 255 s 0 (length s) 0 ≡ o
Holds (reads s o) = read_scalar 255 s 0 (length s) 0 ≡ o
Holds (var-uint s o) = var_uint s 0 (length s) ≡ o
Holds (var-int s o) = var_int s 0 (length s) ≡ o

abbrev pub AllHold : List Edge → Type 0
AllHold [] = Unit {0}
AllHold (x ∷ xs) = Holds x × AllHold xs

abbrev pub starred : List Edge
starred =
    -- Empty: end 0
    streams [] (gives (finish 0))
    -- 00 00: end 2
    ∷ streams (0 ∷ 0 ∷ []) (gives (finish 2))
    -- 01: 6 at 1
    ∷ streams (1 ∷ []) (refuses 6 1)
    -- E3 81 84 20: span 0..4, annotations 2..3, ID 4, int 0
    ∷ streams (227 ∷ 129 ∷ 132 ∷ 32 ∷ []) (gives (value (record { byte = 32; start = 0; annotations = 2; descriptor = 3; body = 4; end = 4 })))
    ∷ annotates (227 ∷ 129 ∷ 132 ∷ 32 ∷ []) 2 3 (gives (ident 4 3))
    ∷ reads (227 ∷ 129 ∷ 132 ∷ 32 ∷ []) (gives (int false 4 4))
    -- E3 81 84: 1 at 3
    ∷ streams (227 ∷ 129 ∷ 132 ∷ []) (refuses 1 3)
    -- E2 81 84: 25
    ∷ streams (226 ∷ 129 ∷ 132 ∷ []) (refuses 25 0)
    -- EF 81: 24
    ∷ streams (239 ∷ 129 ∷ []) (refuses 24 0)
    -- E4 81 84 20: 29
    ∷ streams (228 ∷ 129 ∷ 132 ∷ 32 ∷ []) (refuses 29 0)
    -- D1 80: 32
    ∷ streams (209 ∷ 128 ∷ []) (refuses 32 0)
    -- D5 84 00 85 21 07: body pad 1..3, field 5 at 3..6
    ∷ opens (213 ∷ 132 ∷ 0 ∷ 133 ∷ 33 ∷ 7 ∷ []) (gives (record { rules = Fields; body = 1; end = 6 }))
    ∷ steps Fields (213 ∷ 132 ∷ 0 ∷ 133 ∷ 33 ∷ 7 ∷ []) 1 6 (record { start = 1; body = 3; end = 3 } ∷ [])
    (gives (field 5 3 (record { byte = 33; start = 4; annotations = 4; descriptor = 4; body = 5; end = 6 })))
    -- 4E 84: 30. 4E: 3 at 1
    ∷ streams (78 ∷ 132 ∷ []) (refuses 30 0)
    ∷ streams (78 ∷ []) (refuses 3 1)
    -- VarUInt 7F eight times, FF: 2^63 - 1
    ∷ var-uint (127 ∷ 127 ∷ 127 ∷ 127 ∷ 127 ∷ 127 ∷ 127 ∷ 127 ∷ 255 ∷ []) (gives (record { value = 9223372036854775807; next = 9 }))
    -- VarInt 40 81: -1
    ∷ var-int (64 ∷ 129 ∷ []) (gives (record { negative = true; magnitude = 1; next = 2 }))
    -- 31 00: 34
    ∷ reads (49 ∷ 0 ∷ []) (refuses 34 0)
    ∷ []

abbrev pub Edges : Type 0
Edges = AllHold starred
