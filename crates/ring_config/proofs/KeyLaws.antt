-- The keys of a map, as the code goes over them.
use Rattle.std.proofs.Common.{◌≡◌, Bool, ◌&&◌, List, [], ◌∷◌, String, Global, string_bytes, refl, ap}
use Rattle.std.specs.List.{list_all}
use Rattle.std.specs.Map.{keys_of}
use Rattle.toml.specs.declared.value.Value.{Value}
use Rattle.toml.specs.View.{members_view}
use Rattle.ring_config.specs.declared.error.KeyName.{KeyName}
use Rattle.ring_config.specs.Reading.{is_among, all_among}

-- the keys of a map are those of its members
pub keys_among : (listed : List KeyName) (es : List (String Global × Value)) → list_all (λ key. is_among listed (string_bytes key)) (keys_of es) ≡ all_among listed (members_view es)
keys_among listed [] = refl
keys_among listed (e ∷ es) = ap (λ (b : Bool). is_among listed (string_bytes e.0) && b) (keys_among listed es)
