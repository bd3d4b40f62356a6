-- What words ask for, computed.
use Rattle.std.proofs.Common.{◌≡◌, [], ◌∷◌, Some, None, codes, refl}
use Rattle.std.specs.Prelude.{⊤}
use Rattle.std.specs.Fmt.{digits}
use Rattle.line_model.specs.Numbers.{number_of}
use Rattle.trace_replay.specs.Options.{words_after}
use Rattle.trace_replay.specs.Words.{words_said}

unfoldable on_literals : ⊤
unfolding words_after number_of digits
on_literals = tt

nothing_said : words_said [] ≡ Some (record { workers = None; devices = None })
unfolding on_literals
nothing_said = refl

-- both spellings
joined :
    words_said (codes "--workers=16" ∷ []) ≡ Some (record { workers = Some 16; devices = None })
unfolding on_literals
joined = refl

as_two :
    words_said (codes "--make" ∷ codes "4000" ∷ [])
    ≡ Some (record { workers = None; devices = Some 4_000 })
unfolding on_literals
as_two = refl

-- both orders
workers_first :
    words_said (codes "--workers" ∷ codes "2" ∷ codes "--make=10" ∷ [])
    ≡ Some (record { workers = Some 2; devices = Some 10 })
unfolding on_literals
workers_first = refl

make_first :
    words_said (codes "--make=10" ∷ codes "--workers=2" ∷ [])
    ≡ Some (record { workers = Some 2; devices = Some 10 })
unfolding on_literals
make_first = refl

-- a name twice
twice : words_said (codes "--workers=1" ∷ codes "--workers" ∷ codes "1" ∷ []) ≡ None
unfolding on_literals
twice = refl

-- a word of two hyphens
hyphens : words_said (codes "--" ∷ []) ≡ None
unfolding on_literals
hyphens = refl

after_hyphens : words_said (codes "--workers=1" ∷ codes "--" ∷ []) ≡ None
unfolding on_literals
after_hyphens = refl

-- a value with a leading zero, without a digit, or out of bounds
leading_zero : words_said (codes "--workers=01" ∷ []) ≡ None
unfolding on_literals
leading_zero = refl

empty : words_said (codes "--workers=" ∷ []) ≡ None
unfolding on_literals
empty = refl

signed : words_said (codes "--make" ∷ codes "+1" ∷ []) ≡ None
unfolding on_literals
signed = refl

no_workers : words_said (codes "--workers=0" ∷ []) ≡ None
unfolding on_literals
no_workers = refl

seventeen : words_said (codes "--workers" ∷ codes "17" ∷ []) ≡ None
unfolding on_literals
seventeen = refl

no_devices : words_said (codes "--make=0" ∷ []) ≡ None
unfolding on_literals
no_devices = refl

many_devices : words_said (codes "--make=4001" ∷ []) ≡ None
unfolding on_literals
many_devices = refl

-- a name without its value
lone : words_said (codes "--workers" ∷ []) ≡ None
unfolding on_literals
lone = refl

a_name_for_its_value : words_said (codes "--workers" ∷ codes "--workers=1" ∷ []) ≡ None
unfolding on_literals
a_name_for_its_value = refl

-- another name
other : words_said (codes "--help" ∷ []) ≡ None
unfolding on_literals
other = refl

other_value : words_said (codes "--workers=1" ∷ codes "--port=5683" ∷ []) ≡ None
unfolding on_literals
other_value = refl

no_name : words_said (codes "1" ∷ []) ≡ None
unfolding on_literals
no_name = refl
