-- Values as they are written, by the Ion 1.0 Binary Encoding, their lengths in the fewest bytes.
-- Assumes nothing.
use Rattle.std.specs.Prelude.{ℕ, ◌+◌, ◌*◌, ◌-◌, List, [], ◌∷◌, ◌++◌, length, ltb}
use Rattle.numbers.specs.Outcome.{pick}
use Rattle.framing.specs.Spans.{Spans}
use Rattle.encoding.specs.Fields.{var_uint_size, var_uint_bytes}

-- "Typed Value Formats": the length code of a length: 0 to 13 is the length itself, and 14 says that a VarUInt follows
unfoldable pub head_code : ℕ → ℕ
head_code n = pick (ltb n 14) n 14

-- the descriptor of a type code and a length
unfoldable pub head_byte : ℕ → ℕ → ℕ
head_byte type n = type * 16 + head_code n

-- descriptor and length field
unfoldable pub head_bytes : ℕ → ℕ → List ℕ
head_bytes type n = head_byte type n ∷ pick (ltb n 14) [] (var_uint_bytes n)

-- how many bytes these are
unfoldable pub head_size : ℕ → ℕ
head_size n = pick (ltb n 14) 1 (1 + var_uint_size n)

-- a value of a type, its representation given
unfoldable pub typed_bytes : ℕ → List ℕ → List ℕ
typed_bytes type body = head_bytes type (length body) ++ body

-- where such a value stands when it begins at `at`: its body has n bytes
abbrev pub typed_spans : ℕ → ℕ → ℕ → Spans
typed_spans type at n =
    record {
      byte = head_byte type n;
      start = at;
      annotations = at;
      descriptor = at;
      body = at + head_size n;
      end = at + head_size n + n;
    }

-- "Annotations": the annotations' length, the annotations, the value
unfoldable pub wrapped_bytes : List ℕ → List ℕ → List ℕ
wrapped_bytes annotations value = var_uint_bytes (length annotations) ++ (annotations ++ value)

unfoldable pub wrapper_bytes : List ℕ → List ℕ → List ℕ
wrapper_bytes annotations value = typed_bytes 14 (wrapped_bytes annotations value)

-- how many bytes a wrapper has before its annotations: its annotations have m bytes, its value n
unfoldable pub wrapper_size : ℕ → ℕ → ℕ
wrapper_size m n = head_size (var_uint_size m + (m + n)) + var_uint_size m

-- where a value stands whose wrapper begins at `at`: `inner` is where it stands by itself, behind m bytes of annotations
abbrev pub wrapper_spans : ℕ → ℕ → Spans → Spans
wrapper_spans at m inner =
    record {
      byte = inner.byte;
      start = at;
      annotations = inner.descriptor - m;
      descriptor = inner.descriptor;
      body = inner.body;
      end = inner.end;
    }
