-- What the readings of a value that is written give: the same scalar, the same body, the same annotations and value. The proofs: `scalars-back` of
-- proofs/ScalarsBack.antt, `containers-back` of it too, `wrappers-back` of proofs/WrappersBack.antt.
-- Assumes nothing.
use Rattle.std.specs.Prelude.{ℕ, ◌+◌, ◌^◌, ◌≤◌, ◌<◌, ◌≡◌, Bool, false, List, length, eqb}
use Rattle.numbers.specs.Outcome.{gives, pick}
use Rattle.numbers.specs.Bytes.{part}
use Rattle.framing.specs.Limits.{out_of_range}
use Rattle.framing.specs.Spans.{Spans}
use Rattle.framing.specs.Answers.{read_value}
use Rattle.values.specs.Scalars.{Scalar, read_scalar, step_in}
use Rattle.values.specs.Scalars as read
use Rattle.encoding.specs.Heads.{head_size, wrapper_size}
use Rattle.encoding.specs.Meaning.{StandsAt}
use Rattle.writing.specs.Things.{Thing, null, bool, int, float, symbol, scalar, container, wrapper, significant, written}
use Rattle.writing.specs.Answers.{rules_of, lent_value}
use Rattle.writing.specs.Theorems.{Sound}

-- where the body of n bytes stands of a value at `at`
abbrev pub body_at : ℕ → ℕ → ℕ
body_at at n = at + head_size n

-- a decimal, a timestamp, a string, a clob or a blob, by its type code
abbrev pub spanned : ℕ → ℕ → ℕ → Scalar
spanned type a b =
    pick (eqb type 5) (read.decimal a b)
    (pick (eqb type 6) (read.timestamp a b)
    (pick (eqb type 8) (read.string a b) (pick (eqb type 9) (read.clob a b) (read.blob a b))))

-- A null gives its type, 2 for both of an int's; a bool its value; an int its sign and its magnitude without leading zero bytes; a float its 64 bits; a symbol
-- its ID; of the others their body.
pub data GivesBack (at : ℕ) : Thing → Scalar → Type 0 where
  a_null : {type : ℕ} → GivesBack at (null type) (read.null (pick (eqb type 3) 2 type))
  a_bool : {value : Bool} → GivesBack at (bool value) (read.bool value)
  an_int : {negative : Bool} {magnitude : List ℕ}
      → GivesBack at (int negative magnitude) (read.int negative (body_at at (length (significant magnitude))) (body_at at (length (significant magnitude)) + length (significant magnitude)))
  a_float : {bits : ℕ} → bits < 2 ^ 64 → GivesBack at (float bits) (read.float bits)
  a_symbol : {id : ℕ} → id < 2 ^ 64 → GivesBack at (symbol id) (read.symbol id)
  a_body : {type : ℕ} {body : List ℕ} → GivesBack at (scalar type body) (spanned type (body_at at (length body)) (body_at at (length body) + length body))
  a_container : {type : ℕ} {body : List ℕ} → GivesBack at (container type body) read.container

-- wherever it stands in any map and in any part that holds it
abbrev pub ScalarsBack : Type 0
ScalarsBack =
    (limit deepest at : ℕ) (thing : Thing) (x : Scalar) → GivesBack at thing x → Sound limit deepest thing → out_of_range limit ≡ false
    → (s : List ℕ) (start end : ℕ) → start ≤ at → StandsAt s at end (written thing)
    → read_scalar limit s start end at ≡ gives x

-- stepping into a container that is written opens its body, by its rules
abbrev pub ContainersBack : Type 0
ContainersBack =
    (limit deepest type : ℕ) (body : List ℕ) → Sound limit deepest (container type body) → out_of_range limit ≡ false
    → (s : List ℕ) (start at end : ℕ) → start ≤ at → StandsAt s at end (written (container type body))
    → step_in limit s start end at ≡ gives (record { rules = rules_of type; body = body_at at (length body); end = body_at at (length body) + length body })

-- a wrapper gives back its annotations and its value: where that stands by itself, so much further on
pub record WrapperBack (limit : ℕ) (s : List ℕ) (at end : ℕ) (annotations value : List ℕ) : Type 0 where
  pub inner : Spans
  pub lent : lent_value value ≡ gives inner
  pub framed : read_value limit s at end ≡ gives
      (record {
        byte = inner.byte;
        start = at;
        annotations = at + wrapper_size (length annotations) (length value);
        descriptor = at + wrapper_size (length annotations) (length value) + length annotations;
        body = at + wrapper_size (length annotations) (length value) + length annotations + inner.body;
        end = at + wrapper_size (length annotations) (length value) + length annotations + inner.end;
      })
  pub annotation_bytes : part s (at + wrapper_size (length annotations) (length value)) (at + wrapper_size (length annotations) (length value) + length annotations) ≡ annotations
  pub value-bytes : part s (at + wrapper_size (length annotations) (length value) + length annotations) (at + wrapper_size (length annotations) (length value) + length annotations + length value) ≡ value

abbrev pub WrappersBack : Type 0
WrappersBack =
    (limit deepest : ℕ) (annotations value : List ℕ) → Sound limit deepest (wrapper annotations value)
    → (s : List ℕ) (at end : ℕ) → StandsAt s at end (written (wrapper annotations value))
    → WrapperBack limit s at end annotations value
