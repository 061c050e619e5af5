mod Demanding
