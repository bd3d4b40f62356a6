-- A long text, computed.
use Rattle.std.proofs.Common.{◌≡◌, ℕ, List, replicate, None, refl}
use Rattle.link_model.specs.DocumentReading.{document, good_prefix}
use Rattle.link_model.proofs.OnLiterals.{document_on_literals}

-- the octet `<`, as often
abbrev brackets : ℕ → List ℕ
brackets n = replicate n 60

brackets_alone : (document (brackets 8192) ≡ None) × (good_prefix (brackets 8192) ≡ 8192)
unfolding document_on_literals
brackets_alone = (refl, refl)
