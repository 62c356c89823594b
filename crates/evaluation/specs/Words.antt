-- The words that the program prints of a header, and how it reads an output word.
use Rattle.std.specs.Prelude.{ℕ, ◌^◌, Bool, cond, List, ◌++◌, codes, decimal, nat_lt}
use Rattle.sections.specs.Stroke.{stroke}
use Rattle.sections.specs.Roll.{roll}
use Rattle.sections.specs.Envelope.{envelope}
use Rattle.drivefile.specs.Names.{network_word, section_word}
use Rattle.drivefile.specs.declared.header.Header.{Header}
use Rattle.drivefile.specs.declared.header.SectionChoice.{SectionChoice}
use Rattle.drivefile.specs.declared.header.SectionChoice.TheVariants as section

-- whether the section's words are read signed
abbrev pub read_signed : SectionChoice → Bool
read_signed (section.Stroke s l u) = stroke.signed
read_signed (section.Roll s c) = roll.signed
read_signed (section.Envelope s d) = envelope.signed

-- the tile width is 2 ^ k; a record's k is at most 6
abbrev pub width_of : ℕ → ℕ
width_of k = cond (nat_lt k 32) (2 ^ k) 0

abbrev pub heading_words : Header → List ℕ
heading_words h =
    section_word h.section ++ (codes ", tile width " ++ (decimal (width_of h.exponent) ++ (codes ", " ++ (network_word h.network
    ++ (codes " network, workers " ++ (decimal h.workers ++ (codes ", samples " ++ (decimal h.samples ++ (codes ", turns "
    ++ decimal h.turns)))))))))
