-- What the private enum of tiles says in the scope paper's terms.
-- Assumes nothing.
use Rattle.std.specs.Prelude.{Result}
use Rattle.numbers.specs.Outcome.{Outcome, gives}
use Rattle.numbers.specs.Read.{outcome}
use Rattle.numbers.specs.declared.refusal.Refusal.{Refusal}
use Rattle.stepping.specs.Items.{Item}
use Rattle.stepping.specs.Answers.{Tile, skip, hand}
use Rattle.stepping.specs.Read.{places_of}
use Rattle.stepping.specs.declared.cursor.Tile.{Tile as TileEnum}
use Rattle.stepping.specs.declared.cursor.Tile.TheVariants.{Pad as TilePad, Item as TileItem}

abbrev pub handed : Item → Outcome Tile
handed i = gives (hand i)

abbrev pub tile_of : TileEnum → Tile
tile_of (TilePad p) = skip p.body p.end
tile_of (TileItem i) = hand (places_of i)

abbrev pub tile_read : Result TileEnum Refusal → Outcome Tile
tile_read = outcome tile_of
