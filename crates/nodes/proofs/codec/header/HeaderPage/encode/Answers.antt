use Rattle.nodes.specs.Layout.{header_image, HeaderFits}
use Rattle.nodes.specs.Readings.{header_in}
use Rattle.nodes.specs.Meanings.{header_of}
use Rattle.nodes.proofs.Spelling.{encoded, header_back, header_spells}
use Rattle.nodes.proofs.Writing.{header_written}
use Rattle.nodes.proofs.codec.header.HeaderPage.encode.Goals as goal

pub returns : goal.returns
returns c =
    let v = header_of c.args.self.now in
    let page = c.write_at-6.new.bytes in
    record {
      is_its_page =
          encoded header_image HeaderFits header_in header_back header_of page v
          (header_spells page v
          (record {
            kind_code_is_a_byte = c.begun-page.ensures.fits;
            height_fits = c.write_at.ensures.fits;
            root_fits = c.write_at-2.ensures.fits;
            first_free_fits = c.write_at-3.ensures.fits;
            free_fits = c.write_at-4.ensures.fits;
            keys_fit = c.write_at-5.ensures.fits;
            pages_fit = c.write_at-6.ensures.fits;
          })
          (header_written v c.begun-page.result c.write_at.new.bytes c.write_at-2.new.bytes c.write_at-3.new.bytes c.write_at-4.new.bytes c.write_at-5.new.bytes page c.begun-page.ensures.is_begun c.write_at.ensures.is_written_there c.write_at-2.ensures.is_written_there c.write_at-3.ensures.is_written_there c.write_at-4.ensures.is_written_there c.write_at-5.ensures.is_written_there c.write_at-6.ensures.is_written_there));
    }
