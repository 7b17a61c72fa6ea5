-- The blank image is the image that EEPROM source with only a size describes.
use Rattle.std.proofs.Common.{◌≡◌, [], refl, arith, replicate, slice_set}
use Rattle.eeprom_image.specs.Section.{pointers}
use Rattle.eeprom_image.specs.Content.{only_size}
use Rattle.eeprom_image.specs.Fault.{content_fault, points_inside}
use Rattle.eeprom_image.specs.Image.{IsImage, blank}
use Rattle.eeprom_image.specs.Text.{IsImageOf}
use Rattle.eeprom_image.specs.Triples.{triples_of}
use Rattle.eeprom_image.proofs.LaidOut.{IsLaidOut-put}
use Rattle.eeprom_image.proofs.Unique.{image_of_laid_out}
use Rattle.eeprom_image.proofs.Contents.{IsContent}

right : IsContent (only_size 64)
right = record { size = refl; words = tt; triples = tt }

pub blank_of_size : IsImageOf (only_size 64) (slice_set (replicate 64 65535) 63 47865)
unfolding pointers content_fault points_inside
blank_of_size =
    let laid = IsLaidOut-put (only_size 64) (omega arith) (omega arith) in
    image_of_laid_out (only_size 64) _ right refl laid

-- The blank image is an image, and has no register writes.
pub IsImage-blank : IsImage blank
IsImage-blank = blank_of_size.image

pub triples_of-blank : triples_of blank ≡ []
triples_of-blank = refl
