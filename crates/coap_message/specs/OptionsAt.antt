-- The options that octets begin with.
use Rattle.std.specs.Prelude.{◌≡◌, ℕ, zero, suc, List, [], ◌∷◌, length}
use Rattle.std.specs.Option.{option_map_or}
use Rattle.message_model.specs.Message.{Opt}
use Rattle.message_model.specs.Spelling.{options_spelling}
use Rattle.message_model.specs.Reading.{option_at}

-- Returns at most `n` options after an option of the number before, up to where no option can be
-- read (RFC 7252 section 3.1).
unfoldable pub few_options : ℕ → ℕ → List ℕ → List Opt
few_options zero before bytes = []
few_options (suc n) before bytes =
    option_map_or (λ x. x.0 ∷ few_options n x.0.0 x.1) (option_at before bytes) []

-- Returns all of the options that octets begin with, which are fewer than the octets (RFC 7252
-- section 3.1).
unfoldable pub options_at : ℕ → List ℕ → List Opt
options_at before bytes = few_options (length bytes) before bytes

-- States that the octets are options and nothing else. They spell the options that they begin with,
-- and neither a marker nor a payload follows these (RFC 7252 section 3).
abbrev pub AreOptionsAlone : List ℕ → Type 0
AreOptionsAlone bytes = options_spelling 0 (options_at 0 bytes) ≡ bytes
